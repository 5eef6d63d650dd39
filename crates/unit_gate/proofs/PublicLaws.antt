-- The lemmas of unit_gate that other crates may cite
pub use Rattle.unit_gate.proofs.Sent.{recorded-sent}
pub use Rattle.unit_gate.proofs.Standing.{all-folded, stands-asked, stands-history, stands-long, without-none}
pub use Rattle.unit_gate.proofs.Ending.{opening-recorded}
pub use Rattle.unit_gate.proofs.OpeningActors.{opening-actors}
