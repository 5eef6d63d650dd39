use Rattle.cmd_program.proofs.AsksAll.{asks-within-limits}
use Rattle.cmd_program.proofs.laws.asks_law.Goals as goal

pub returns : goal.returns
returns c = asks-within-limits c.args._config.now c.units-units.ensures.limits
