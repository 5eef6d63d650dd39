-- Whether the acts that a command asks for may be asked
use Rattle.std.specs.Prelude.{ℕ, List}
use Rattle.cm_base.specs.Configuration.{Configuration}
use Rattle.cm_base.specs.Fields.{AreBytes}
use Rattle.cm_frame.specs.declared.frame.Request.{Request}
use Rattle.cm_history.specs.declared.act.Entry.{Entry}
use Rattle.cmd_program.specs.declared.step.Outcome.{Outcome}
use Rattle.cmd_program.specs.InHistory.{LacksAny, RunsIn}
use Rattle.cmd_program.specs.Judging.{step, program}
use Rattle.cmd_program.specs.Meaning.{IsAskable}

-- Whatever was asked in bytes, and whatever history answers: the next act is within its limits, on a unit that is there.
abbrev pub AsksWithinLimits : Configuration → Type 0
AsksWithinLimits config =
    (nexus : ℕ) (request : Request) (before : List Entry) (outcomes : List Outcome)
    → AreBytes request.out → RunsIn config nexus LacksAny (program config request) before outcomes
    → IsAskable config (step config nexus request outcomes)
