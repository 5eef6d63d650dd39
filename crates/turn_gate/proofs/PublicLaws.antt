-- The lemmas of turn_gate that other crates may cite
pub use Rattle.turn_gate.proofs.Prefixes.{prefix_self, prefix_trans, prefix_length, prefix_more}
pub use Rattle.turn_gate.proofs.Numbers.{at_most_self, at_most_trans}
