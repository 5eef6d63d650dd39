use Rattle.cmd_program.proofs.Busy.{gives-up-by}
use Rattle.cmd_program.proofs.laws.give_up_law.Goals as goal

pub returns : goal.returns
returns c = gives-up-by
