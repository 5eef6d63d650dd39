-- What a command asks a last time where it gives up
use Rattle.cmd_program.specs.declared.step.Step.{Step}
use Rattle.cmd_program.specs.Program.{Ask}

abbrev pub asked_last : Ask → Step
asked_last ask = Step.Do ask.unit ask.act
