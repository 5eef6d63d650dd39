use Rattle.std.proofs.Common.{ℕ, IfNone, subst}
use Rattle.cm_server.specs.Words.{AreFolderWords}
use Rattle.cm_server.proofs.asking.words.sessions_to_record.Goals as goal

pub returns-clause-other : goal.returns-clause-other
returns-clause-other c =
    subst (λ w. IfNone c.sessions_with_folder.result ((n : ℕ) → AreFolderWords w c.args.words.now n → ⊥)) c.as_slice.ensures c.sessions_with_folder.ensures.other
