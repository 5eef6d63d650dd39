-- How a session stands between two requests. No public clause cites this module.
use Rattle.std.specs.Prelude.{ℕ, List, ◌++◌, All}
use Rattle.cm_base.specs.Configuration.{Configuration}
use Rattle.cm_frame.specs.declared.frame.Request.{Request}
use Rattle.cmd_program.specs.Judging.{program_after}
use Rattle.cmd_program.specs.Running.{Call}
use Rattle.cmd_program.specs.Short.{IsShort}
use Rattle.cmd_machine.specs.declared.command.CommandOf.{CommandOf}
use Rattle.any_cmds.specs.declared.phase.AnyPhase.{AnyPhase}
use Rattle.cmd_program.specs.Exchanges.{Event, outcomes_of, calls_in}
use Rattle.session.specs.inner.Talking.{IsGoing}

-- what was asked so far was asked of the nexus, at moments that are shown
pub record HasAsked (config : Configuration) (nexus : ℕ) (request : Request) (Shows : ℕ → Type 0) (Made : List Call → Type 0) (calls : List Call)
    (command : CommandOf AnyPhase) (left : ℕ) : Type 0 where
  pub events : List Event
  pub is : IsGoing config nexus request command events
  pub short : IsShort (program_after config request (outcomes_of events)) left
  pub made : Made (calls ++ calls_in events)
  pub shown : All (λ (c : Call). Shows c.moment) (calls_in events)
