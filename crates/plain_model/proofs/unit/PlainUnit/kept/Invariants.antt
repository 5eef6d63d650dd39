use Rattle.std.proofs.Common.{◌≡◌, take, None}
use Rattle.std.specs.Prelude.{find}
use Rattle.cm_history.specs.Operations.{has_key}
use Rattle.plain_model.specs.inner.Forms.{as_form}
use Rattle.plain_model.proofs.unit.PlainUnit.kept.Given as goal

abbrev pub invariant-loop-operation : goal.invariant-loop-operation
invariant-loop-operation l = find (has_key l.actor (as_form l.form) l.id) (take l.operation-index l.operation-items) ≡ None
