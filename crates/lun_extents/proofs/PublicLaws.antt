-- The lemmas of lun_extents that other crates may cite
pub use Rattle.lun_extents.proofs.Counting.{row-append}
pub use Rattle.lun_extents.proofs.Places.{held_at-part}
pub use Rattle.lun_extents.proofs.Splits.{not_at}
