-- The lemmas of pr_keys that other crates may cite
pub use Rattle.pr_keys.proofs.Sound.{applied-sound, unreserved-sound}
