-- What one initiator asked and was told, in a history of unit steps
use Rattle.std.specs.Prelude.{ℕ, List}
use Rattle.cm_base.specs.Configuration.{Configuration}
use Rattle.cm_history.specs.declared.act.Entry.{Entry}
use Rattle.cmd_program.specs.Judging.{program}
use Rattle.cmd_program.specs.InHistory.{Lacking, RunsIn}
use Rattle.cmd_program.specs.Exchanges.{Exchange, outcomes_of}

-- the exchange is a run of its command, behind some history
abbrev pub HasRun : Configuration → ℕ → Lacking → Exchange → Type 0
HasRun config nexus Lacks x = (before : List Entry) × RunsIn config nexus Lacks (program config x.request) before (outcomes_of x.events)
