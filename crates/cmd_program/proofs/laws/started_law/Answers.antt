use Rattle.cmd_program.proofs.WriteStarts.{writes-are-started}
use Rattle.cmd_program.proofs.laws.started_law.Goals as goal

pub returns : goal.returns
returns c = writes-are-started c.args._config.now
