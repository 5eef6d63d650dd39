use Rattle.std.proofs.Common.{[], List}
use Rattle.cm_history.specs.declared.act.Entry.{Entry}
use Rattle.cm_frame.specs.declared.frame.Request.{Request}
use Rattle.cmd_machine.specs.Rest.{StandsFor, IsSoundAt}
use Rattle.any_cmds.specs.Meaning.{by_any, IsSoundAny}
use Rattle.odx_host.specs.Units.{host, AreAfter}
use Rattle.odx_host.proofs.Running.{HasCome}
use Rattle.odx_host.proofs.unit_port.run.Given as goal

abbrev pub invariant-acts : goal.invariant-acts
invariant-acts l =
    IsSoundAt IsSoundAny l.config l.command
    × ((history : List Entry) (request : Request) → AreAfter l.config history l.initial.units → StandsFor by_any l.config l.initial.command host request []
    → HasCome l.config history l.units request l.command l.left)

abbrev pub decreases-acts : goal.decreases-acts
decreases-acts l = l.left
