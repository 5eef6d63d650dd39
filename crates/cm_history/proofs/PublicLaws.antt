-- The lemmas of cm_history that other crates may cite
pub use Rattle.cm_history.specs.Members.{Each, In}
pub use Rattle.cm_history.proofs.Lists.{Each-all, Each-append, Each-by, Each-in, Each-map, In-append, In-append_right, In-contains, In-filter, In-map, any-none, contains-in, filter-passes, find-in, find-none, find-some, get-in, length-take-short}
pub use Rattle.cm_history.proofs.Counts.{IsBegun, IsPast, apart, begun, earlier, made-after, same_place}
pub use Rattle.cm_history.proofs.Records.{and_first, kept_in, making_serves, running_kept, served_none, with_room_in}
pub use Rattle.cm_history.proofs.Made.{Has, IsMade, all-made, past_of-mine, past_of-other, token-kept}
pub use Rattle.cm_history.proofs.Reserved.{barred-kind, free-answer, free-answered, out-refused, reservations-sound}
pub use Rattle.cm_history.proofs.Keys.{KeysApart, and_second, keys-apart, one-key, record-found, same-record, same_actor-is, same_form-is}
pub use Rattle.cm_history.proofs.CountLaw.{length-past, past-is, same_actor-self}
pub use Rattle.cm_history.proofs.Locality.{past_of-on}
pub use Rattle.cm_history.proofs.LegalPush.{legal_push}
pub use Rattle.cm_history.proofs.AnswerKinds.{after-kind, answer-kind, unbarred-kind}
pub use Rattle.cm_history.proofs.WritesOn.{more_of, no-failure}
pub use Rattle.cm_history.proofs.WritesEnd.{Follows, follows-answer, follows-more, follows-started}
pub use Rattle.cm_history.proofs.Finding.{all-map, all-same, any-filter, any-found, any-map, any-same, any-some, filter-map, filter-same, find-filter, find-map, find-passes, find-same, map-append, map-map, map-same}
pub use Rattle.cm_history.proofs.Starts.{length-paired, populate-few, start-alike, start-few, start-length, start-total}
pub use Rattle.cm_history.proofs.Serving.{Closes, Ends, IsPaced, Moves, Serves, Stops, all-paced, few-written, how-serves, left-running, length-next, paced-after, served-or-not, serving, token-runs}
pub use Rattle.cm_history.proofs.ImageBlocks.{both, read-same, status-same, write-same}
pub use Rattle.cm_history.proofs.ImageOperations.{same_form-self}
pub use Rattle.cm_history.proofs.ImageRoom.{some-map, sum-filter, sum-map, sum-same, whole-pieces}
pub use Rattle.cm_history.proofs.TokenLaw.{token_law}
pub use Rattle.cm_history.proofs.FoldLaw.{writings-image}
pub use Rattle.cm_history.proofs.Imaging.{writings_by}
