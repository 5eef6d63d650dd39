use Rattle.std.proofs.Common.{◌≡◌, take, false}
use Rattle.std.specs.Prelude.{filter}
use Rattle.std.specs.List.{list_any}
use Rattle.cm_history.specs.Operations.{has_key, is_running}
use Rattle.plain_model.specs.inner.Forms.{as_form}
use Rattle.plain_model.proofs.unit.PlainUnit.is_busy.Given as goal

abbrev pub invariant-loop-operation : goal.invariant-loop-operation
invariant-loop-operation l = list_any (has_key l.actor (as_form l.form) l.id) (filter is_running (take l.operation-index l.operation-items)) ≡ false
