-- The lemmas of plain_model that other crates may cite
pub use Rattle.plain_model.proofs.Within.{within-push}
