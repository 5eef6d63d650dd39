-- How a command ended that did not give up
use Rattle.cmd_program.specs.Program.{Program, done, refused, conflict}
use Rattle.cmd_machine.specs.declared.ended.Ended.{Ended}

abbrev pub by_ended : Ended → Program
by_ended Ended.Good = done
by_ended Ended.Conflict = conflict
by_ended (Ended.Refused sense) = refused sense
