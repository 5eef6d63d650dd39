use Rattle.std.proofs.Common.{◌≡◌, ◌≤◌, take, length}
use Rattle.std.specs.Prelude.{filter}
use Rattle.cm_history.specs.Operations.{is_running}
use Rattle.plain_model.proofs.unit.PlainUnit.is_crowded.Given as goal

abbrev pub invariant-loop-operation : goal.invariant-loop-operation
invariant-loop-operation l = (l.running ≡ length (filter is_running (take l.operation-index l.operation-items))) × (l.running ≤ l.operation-index)
