-- The lemmas of merged_history that other crates may cite
pub use Rattle.merged_history.proofs.Members.{In-append, In-split, in-contains}
pub use Rattle.merged_history.proofs.Sorted.{in-merged}
pub use Rattle.merged_history.proofs.OfActor.{rises-append}
pub use Rattle.merged_history.proofs.Whole.{all-in, unit-stands}
pub use Rattle.merged_history.proofs.Heads.{map-at}
pub use Rattle.merged_history.proofs.Steps.{of-from}
pub use Rattle.merged_history.proofs.Passing.{longer-set, pass-makes, pass-sees, pump-unit, set-at}
pub use Rattle.merged_history.proofs.Joining.{IsJoinedTo, own_of-other, own_of-own, pass-new, root-closes, root-joins, root-makes, root-new, root-resumes, root-sees}
pub use Rattle.merged_history.proofs.Resumed.{resumed}
pub use Rattle.merged_history.proofs.Given.{AreHistories, AreMadeBy, MayMake}
