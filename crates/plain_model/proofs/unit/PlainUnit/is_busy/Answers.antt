use Rattle.std.proofs.Common.{◌≡◌, ◌∙◌, ap, sym, true, List}
use Rattle.std.specs.Prelude.{filter}
use Rattle.std.specs.List.{list_any}
use Rattle.cm_history.specs.Operations.{Operation, operations, is_running, has_key}
use Rattle.plain_model.specs.inner.Forms.{as_form}
use Rattle.plain_model.proofs.OneByOne.{any-found}
use Rattle.plain_model.proofs.unit.PlainUnit.is_busy.Goals as goal

pub returns-then-has_key : goal.returns-then-has_key
returns-then-has_key c =
    let items : List Operation = c.deref-operation-items.result.now in
    let same : items ≡ operations c.args.self.now = cc in
    let o = c.operation-item.result in
    let first : is_running o ≡ true = sym c.is_running.ensures ∙ c.if-is_running.true in
    let second : has_key c.args.actor (as_form c.args.form) c.args.id o ≡ true = sym c.has_key.ensures ∙ c.if-has_key.true in
    any-found is_running (has_key c.args.actor (as_form c.args.form) c.args.id) items c.loop-operation.operation-index o c.loop-operation-test.true c.operation-item.is first second
    ∙ ap (λ (os : List Operation). list_any (has_key c.args.actor (as_form c.args.form) c.args.id) (filter is_running os)) same
