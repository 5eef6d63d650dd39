-- The lemmas of round_counts that other crates may cite
pub use Rattle.round_counts.proofs.Plays.{in-front, items-end}
