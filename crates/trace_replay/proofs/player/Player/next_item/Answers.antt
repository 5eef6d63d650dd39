use Rattle.std.proofs.Common.{ap, ◌∙◌}
use Rattle.std.proofs.lemmas.Result.{err_from_is_err_and}
use Rattle.trace_replay.proofs.Playing.{counts-later}
use Rattle.trace_replay.proofs.Written.{counted-later}
use Rattle.trace_replay.proofs.player.Player.next_item.Goals as goal

pub returns-in_err-found-clause-counted : goal.returns-in_err-found-clause-counted
returns-in_err-found-clause-counted g c =
    let p = err_from_is_err_and c.from_residual.result c.from_residual.ensures.1 in
    rw (p.1, p.2) (counts-later _ _ _ _ _ _ c.in_err-found.field-0.0 c.loop-found.invariant.1 c.loop-found.invariant.2 (c.in_err-found.ensures.counted _))

pub returns-then-not-branch-clause-counted : goal.returns-then-not-branch-clause-counted
returns-then-not-branch-clause-counted g c =
    counted-later c.at_end.result _ _ _ _ _ _ (c.in_ok-pull.ensures.counted.0 ∙ c.loop-found.invariant.1)
    (c.in_ok-pull.ensures.counted.1 ∙ ap g.O.Sink.write_faults c.in_ok-found.ensures.same.1 ∙ c.loop-found.invariant.2)
    (c.at_end.ensures.counted _ _)
