-- The lemmas of cm_frame that other crates may cite
pub use Rattle.cm_frame.proofs.Stays.{header-stays, item-stays, request-stays}
pub use Rattle.cm_frame.proofs.Within.{UsesWithin, header-within, item-within}
