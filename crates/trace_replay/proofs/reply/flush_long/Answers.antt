use Rattle.trace_replay.proofs.Written.{relieved}
use Rattle.trace_replay.proofs.reply.flush_long.Goals as goal

pub returns-clause-written : goal.returns-clause-written
returns-clause-written g c = λ taken bytes w. relieved _ taken _ _ bytes (c.flush.ensures.written taken bytes w)
