-- The lemmas of unit_core that other crates may cite
pub use Rattle.unit_core.proofs.UnfoldedActs.{unfolded-after, unfolded-entry, unfolded-first, unfolded-full, unfolded-grown}
pub use Rattle.unit_core.proofs.Folds.{first-any}
pub use Rattle.unit_core.proofs.Operating.{IsMadeBy, all-made_by}
pub use Rattle.unit_core.proofs.Jobs.{IsNexus, maker-nexus}
pub use Rattle.unit_core.proofs.Served.{serving}
