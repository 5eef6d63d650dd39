use Rattle.trace_replay.proofs.Written.{written-flushed}
use Rattle.trace_replay.proofs.reply.flush.Goals as goal

pub returns-clause-written : goal.returns-clause-written
returns-clause-written g c = λ taken bytes w.
    (written-flushed taken _ _ _ bytes _ c.in_ok-flush.ensures.whole w c.in_ok-flush.ensures.grown, c.in_ok-flush.ensures.whole)
