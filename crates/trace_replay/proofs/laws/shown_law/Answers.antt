use Rattle.cmd_program.specs.Judging.{step}
use Rattle.cmd_program.proofs.PublicLaws.{ends-busy}
use Rattle.trace_replay.proofs.Belonging.{refusals-shown}
use Rattle.trace_replay.proofs.laws.shown_law.Goals as goal

pub returns : goal.returns
returns c = λ bytes shortages may. refusals-shown step ends-busy bytes shortages may
