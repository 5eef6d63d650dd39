use Rattle.std.proofs.Common.{◌≡◌, map, take}
use Rattle.cm_history.specs.Operations.{operation_after}
use Rattle.plain_model.proofs.operations.served.Given as goal

abbrev pub invariant-loop-operation : goal.invariant-loop-operation
invariant-loop-operation l = l.next.items ≡ map (operation_after l.deed) (take l.operation-index l.operations)
