use Rattle.std.proofs.Common.{inl, ap, ◌∙◌, ◌-◌}
use Rattle.std.proofs.lemmas.Result.{err_from_is_err_and}
use Rattle.trace_replay.specs.Items.{items_limit}
use Rattle.trace_replay.specs.declared.summary.Summary.{Summary}
use Rattle.trace_replay.proofs.Playing.{loop-written, ends-begun, ends-done, ends-records, counts-later}
use Rattle.trace_replay.proofs.player.Player.end.Goals as goal

pub returns-then-not-branch-clause-played : goal.returns-then-not-branch-clause-played
returns-then-not-branch-clause-played g c = λ left taken is.
    let h = c.in_ok-has_more.ensures.more left taken is in
    let none = h.none c.if-not-branch.true in
    rw h.is.summary
    (ends-done left _ taken _ h.is.config h.is.s _ _ _ _ h.is.loop none.2 none.0 none.1)

pub returns-in_err-flush-clause-played : goal.returns-in_err-flush-clause-played
returns-in_err-flush-clause-played g c = λ left taken is.
    let p = err_from_is_err_and c.from_residual-in_err-flush.result c.from_residual-in_err-flush.ensures.1 in
    let m = (c.in_ok-has_more.ensures.more left taken is).is in
    let h = c.in_err-flush.ensures.written taken _ m.loop.written in
    rw (p.1, p.2) (ends-begun left _ taken _ m.config m.s _ _ _ _ m.loop _ _ h.0 (inl h.1))

pub returns-in_err-flush-clause-counted : goal.returns-in_err-flush-clause-counted
returns-in_err-flush-clause-counted g c =
    let p = err_from_is_err_and c.from_residual-in_err-flush.result c.from_residual-in_err-flush.ensures.1 in
    rw (p.1, p.2) (counts-later _ _ _ _ _ _ c.in_err-flush.field-0.0 c.in_ok-has_more.ensures.counted.0 c.in_ok-has_more.ensures.counted.1 (c.in_err-flush.ensures.counted _))

pub returns-clause-played : goal.returns-clause-played
returns-clause-played g c = λ left taken is.
    let more = c.in_ok-has_more.ensures.more left taken is in
    let m = more.is in
    let h = c.in_ok-flush.ensures.written taken _ m.loop.written in
    let left_is = ap (λ (n : Summary). items_limit - n.records) c.in_ok-has_more.ensures.summary ∙ c.requires in
    ends-records left _ taken _ m.config m.s _ _ _ _ (loop-written left _ taken _ m.config m.s _ _ _ _ m.loop _ _ h.0) h.1 left_is (more.some c.if-not-branch.false)

pub returns-clause-counted : goal.returns-clause-counted
returns-clause-counted g c =
    (c.in_ok-has_more.ensures.counted.0, (c.in_ok-flush.ensures.counted 0).1 ∙ c.in_ok-has_more.ensures.counted.1)
