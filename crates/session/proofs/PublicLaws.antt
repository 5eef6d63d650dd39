-- The lemmas of session that other crates may cite
pub use Rattle.session.proofs.Leading.{keep-with, next-fits, pushed-each, set-same, shown-at, shown-each, shown-set, stamp-left}
