-- The lemmas of nexus that other crates may cite
pub use Rattle.nexus.proofs.Sent.{pass-sent, world-shared}
