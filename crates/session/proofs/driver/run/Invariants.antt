use Rattle.std.proofs.Common.{◌≡◌, List, []}
use Rattle.cm_frame.specs.declared.frame.Request.{Request}
use Rattle.cmd_program.specs.Running.{Call}
use Rattle.cmd_program.specs.Judging.{program}
use Rattle.cmd_machine.specs.Rest.{StandsFor, IsSoundAt}
use Rattle.any_cmds.specs.Meaning.{by_any, IsSoundAny}
use Rattle.cmd_program.specs.Short.{IsShort, acts_limit}
use Rattle.session.specs.inner.Talking.{Goes}
use Rattle.session.proofs.Talking.{HasAsked}
use Rattle.session.proofs.driver.run.Given as goal

abbrev pub invariant-acts : goal.invariant-acts
invariant-acts g l =
    IsSoundAt IsSoundAny l.config l.command
    × (g.R.Runs.config l.actor ≡ g.R.Runs.config l.initial.actor)
    × (g.R.Runs.number l.actor ≡ g.R.Runs.number l.initial.actor)
    × Goes l.config (g.R.Runs.number l.initial.actor) l.command l.left
    × ((request : Request) (calls : List Call) → StandsFor by_any l.config l.initial.command (g.R.Runs.number l.initial.actor) request []
    → IsShort (program l.config request) acts_limit → g.R.Runs.StandsFor l.initial.actor calls
    → HasAsked l.config (g.R.Runs.number l.initial.actor) request (g.C.Clock.shows l.clock) (g.R.Runs.StandsFor l.actor) calls l.command l.left)
    × (g.R.Runs.unsettled l.actor ≡ g.R.Runs.unsettled l.initial.actor)

abbrev pub decreases-acts : goal.decreases-acts
decreases-acts g l = l.left
