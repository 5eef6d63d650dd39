use Rattle.std.proofs.Common.{◌≡◌, take, None}
use Rattle.std.specs.Prelude.{find, filter}
use Rattle.cm_history.specs.Operations.{fits, is_running}
use Rattle.plain_model.proofs.unit.PlainUnit.would_serve.Given as goal

abbrev pub invariant-loop-operation : goal.invariant-loop-operation
invariant-loop-operation l = find (fits l.actor l.act) (filter is_running (take l.operation-index l.operation-items)) ≡ None
