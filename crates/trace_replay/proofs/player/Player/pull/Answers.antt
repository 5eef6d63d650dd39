use Rattle.std.proofs.Common.{inl, ap}
use Rattle.std.proofs.lemmas.Result.{err_from_is_err_and}
use Rattle.trace_replay.proofs.Playing.{loop-written, loop-more, ends-begun, ends-filling, counts-filling, none-came}
use Rattle.trace_replay.proofs.player.Player.pull.Goals as goal

pub returns-in_err-flush-clause-pulled : goal.returns-in_err-flush-clause-pulled
returns-in_err-flush-clause-pulled g c = λ left taken is needs.
    let p = err_from_is_err_and c.from_residual.result c.from_residual.ensures.1 in
    let h = c.in_err-flush.ensures.written taken _ is.loop.written in
    rw (p.1, p.2) (ends-begun left _ taken _ is.config is.s _ _ _ _ is.loop _ _ h.0 (inl h.1))

pub returns-in_err-flush-clause-counted : goal.returns-in_err-flush-clause-counted
returns-in_err-flush-clause-counted g c =
    let p = err_from_is_err_and c.from_residual.result c.from_residual.ensures.1 in
    rw (p.1, p.2) (c.in_err-flush.ensures.counted _)

pub returns-in_err-count-clause-pulled : goal.returns-in_err-count-clause-pulled
returns-in_err-count-clause-pulled g c = λ left taken is needs.
    let p = err_from_is_err_and c.from_residual-in_err-count.result c.from_residual-in_err-count.ensures.1 in
    let h = c.in_ok-flush.ensures.written taken _ is.loop.written in
    let l = loop-written left _ taken _ is.config is.s _ _ _ _ is.loop _ _ h.0 in
    rw (p.1, p.2) (ends-filling left _ taken _ is.config is.s _ _ _ _ l h.1 _ c.in_err-count.field-0.0 needs
    (λ e. (c.in_err-count.ensures.read e).0) (λ e. ap g.I.Source.left (c.in_err-count.ensures.memory e)))

pub returns-in_err-count-clause-counted : goal.returns-in_err-count-clause-counted
returns-in_err-count-clause-counted g c =
    let p = err_from_is_err_and c.from_residual-in_err-count.result c.from_residual-in_err-count.ensures.1 in
    rw (p.1, p.2) (counts-filling _ _ _ _ c.in_err-count.field-0.0 (c.in_ok-flush.ensures.counted 0).1
    (λ e. (c.in_err-count.ensures.read e).1) (λ e. ap g.I.Source.read_faults (c.in_err-count.ensures.memory e)))

pub returns-clause-pulled : goal.returns-clause-pulled
returns-clause-pulled g c = λ left taken is needs.
    let h = c.in_ok-flush.ensures.written taken _ is.loop.written in
    let l = loop-written left _ taken _ is.config is.s _ _ _ _ is.loop _ _ h.0 in
    let m = c.in_ok-count.ensures.ok in
    record {
      is = record {
        config = is.config;
        s = is.s;
        loop = loop-more left _ taken _ is.config is.s _ _ _ _ l _ m.0 _ m.2 m.3;
        machine = is.machine;
        summary = is.summary;
        few = is.few;
        place = is.place;
      };
      flushed = h.1;
      ended = λ e. let none = none-came _ _ m.0 _ m.1 m.2 e in (c.in_ok-count.ensures.ended none.0, none.1);
    }

pub returns-clause-counted : goal.returns-clause-counted
returns-clause-counted g c = (c.in_ok-count.ensures.sound, (c.in_ok-flush.ensures.counted 0).1)
