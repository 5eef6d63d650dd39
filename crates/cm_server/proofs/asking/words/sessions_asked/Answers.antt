use Rattle.std.proofs.Common.{ℕ, IfNone, subst}
use Rattle.cm_server.specs.Words.{AreSessionWords}
use Rattle.cm_server.proofs.asking.words.sessions_asked.Goals as goal

pub returns-clause-other : goal.returns-clause-other
returns-clause-other c =
    subst (λ w. IfNone c.sessions_of.result ((n : ℕ) → AreSessionWords w c.args.words.now n → ⊥)) c.as_slice.ensures c.sessions_of.ensures.other
