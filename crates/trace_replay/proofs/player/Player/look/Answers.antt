use Rattle.std.proofs.Common.{sym, ◌∙◌}
use Rattle.std.proofs.lemmas.Result.{err_from_is_err_and}
use Rattle.trace_replay.proofs.Playing.{ends-memory, bad-ends}
use Rattle.trace_replay.proofs.player.Player.look.Goals as goal

pub returns-in_err-item-clause-failed : goal.returns-in_err-item-clause-failed
returns-in_err-item-clause-failed g c = λ left rest taken is.
    let p = err_from_is_err_and c.from_residual.result c.from_residual.ensures.1 in
    rw (p.1, p.2) (ends-memory left rest taken _ is.config is.s _ _ _ _ is.loop)

pub returns-in-Bad-clause-failed : goal.returns-in-Bad-clause-failed
returns-in-Bad-clause-failed g c = λ left rest taken is.
    let bad = sym c.in_ok-item.ensures.value ∙ c.in-Bad.is in
    c.bad_record.ensures.ended left rest taken is.config is.s _ _ is.loop (bad-ends is.config is.s _ _ _ _ c.requires bad)
