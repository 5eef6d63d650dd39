-- Which program a command of any kind stands for
use Rattle.cm_base.specs.Configuration.{Configuration}
use Rattle.cmd_program.specs.Program.{Program}
use Rattle.plain_cmds.specs.Meaning as plain
use Rattle.token_cmds.specs.Meaning as token
use Rattle.xcopy_exec.specs.Meaning as copy
use Rattle.any_cmds.specs.declared.phase.AnyPhase.{AnyPhase}

abbrev pub by_any : Configuration → AnyPhase → Program
by_any config (AnyPhase.Plain p) = plain.by_phase config p
by_any config (AnyPhase.Token p) = token.by_phase config p.value
by_any config (AnyPhase.Copy p) = copy.by_phase config p.value

abbrev pub IsSoundAny : Configuration → AnyPhase → Type 0
IsSoundAny config (AnyPhase.Plain p) = plain.IsSoundPhase config p
IsSoundAny config (AnyPhase.Token p) = token.IsSoundPhase config p.value
IsSoundAny config (AnyPhase.Copy p) = copy.IsSoundPhase config p.value
