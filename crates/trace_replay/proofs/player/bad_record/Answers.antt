use Rattle.std.proofs.Common.{inl}
use Rattle.trace_replay.proofs.Playing.{loop-written, ends-bad, ends-begun}
use Rattle.trace_replay.proofs.player.bad_record.Goals as goal

pub returns-in-Ok-clause-ended : goal.returns-in-Ok-clause-ended
returns-in-Ok-clause-ended g c = λ left rest taken config s n input l bad.
    let h = c.in-Ok.ensures.written taken _ l.written in
    ends-bad left rest taken _ config s n _ input _ (loop-written left rest taken _ config s n _ input _ l _ _ h.0) h.1 bad

pub returns-in-Err-clause-ended : goal.returns-in-Err-clause-ended
returns-in-Err-clause-ended g c = λ left rest taken config s n input l bad.
    let h = c.in-Err.ensures.written taken _ l.written in
    ends-begun left rest taken _ config s n _ input _ l _ _ h.0 (inl h.1)
