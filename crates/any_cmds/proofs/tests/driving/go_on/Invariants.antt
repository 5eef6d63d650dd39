use Rattle.std.specs.Prelude.{ℕ, List}
use Rattle.cm_frame.specs.declared.frame.Request.{Request}
use Rattle.cmd_program.specs.declared.step.Outcome.{Outcome}
use Rattle.cmd_machine.specs.Rest.{IsSoundAt, StandsFor}
use Rattle.any_cmds.specs.Meaning.{IsSoundAny, by_any}
use Rattle.any_cmds.proofs.tests.driving.go_on.Given as goal

abbrev pub invariant-loop-outcome : goal.invariant-loop-outcome
invariant-loop-outcome l =
    IsSoundAt IsSoundAny l.config l.command
    × (nexus : ℕ) × (request : Request) × (outcomes : List Outcome) × StandsFor by_any l.config l.command nexus request outcomes
