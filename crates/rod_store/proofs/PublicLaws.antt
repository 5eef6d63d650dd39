-- The lemmas of rod_store that other crates may cite
pub use Rattle.rod_store.proofs.Ended.{Ends, append-before, append-last, append-others, delete-ends, evict-ends, evict-same, expire-ends, used-same, value-same}
pub use Rattle.rod_store.proofs.Values.{count-with, deleted-with, expired-with, judged-err, judged-ok, populated-with, same-with, some-with, used-with, value-with}
pub use Rattle.rod_store.proofs.Pinned.{pinned-same, pinned-sized}
pub use Rattle.rod_store.proofs.RodsShown.{after-with, may-with, rods-same}
