-- The lemmas of copy_plan that other crates may cite
pub use Rattle.copy_plan.proofs.Between.{between-drop, between-empty, between-fewer, between-here, between-one, between-past, total-between}
pub use Rattle.copy_plan.proofs.Runs.{blocks-between, run-between, run-few, run-longest}
pub use Rattle.copy_plan.proofs.Cuts.{cut-rises, greedy-same, run-part}
pub use Rattle.copy_plan.proofs.Judgement.{fault-none, none-fault}
