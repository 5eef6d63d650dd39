-- The lemmas of copy_jobs that other crates may cite
pub use Rattle.copy_jobs.proofs.Lists.{or_first}
pub use Rattle.copy_jobs.proofs.SameKeys.{same-sym}
