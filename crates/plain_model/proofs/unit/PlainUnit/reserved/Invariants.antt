use Rattle.std.proofs.Common.{◌≡◌, take, length}
use Rattle.std.specs.Prelude.{filter, sum_by}
use Rattle.cm_history.specs.Operations.{Operation, is_running}
use Rattle.cm_history.specs.Room.{still_needed}
use Rattle.plain_model.specs.inner.Amounts.{capped}
use Rattle.plain_model.proofs.unit.PlainUnit.reserved.Given as goal

abbrev pub invariant-loop-operation : goal.invariant-loop-operation
invariant-loop-operation l = l.reserved ≡ capped (sum_by (λ (o : Operation). still_needed (length o.servers) o.made.entry.act) (filter is_running (take l.operation-index l.operation-items)))
