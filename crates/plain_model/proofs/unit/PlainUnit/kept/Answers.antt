use Rattle.std.proofs.Common.{◌≡◌, ◌∙◌, ap, sym, true, false, take, List}
use Rattle.std.specs.Prelude.{find}
use Rattle.cm_history.specs.Operations.{Operation, kept, has_key}
use Rattle.plain_model.specs.inner.Forms.{as_form}
use Rattle.plain_model.proofs.OneByOne.{find-later, find-last, take-next}
use Rattle.plain_model.proofs.unit.PlainUnit.kept.Goals as goal

pub returns-then-has_key : goal.returns-then-has_key
returns-then-has_key c =
    let items : List Operation = c.deref-operation-items.result.now in
    let same : items ≡ kept c.args.self.now = cc in
    let o = c.operation-item.result in
    let passes : has_key c.args.actor (as_form c.args.form) c.args.id o ≡ true = sym c.has_key.ensures ∙ c.if-has_key.true in
    sym (find-later (has_key c.args.actor (as_form c.args.form) c.args.id) items c.loop-operation.operation-index o c.loop-operation-test.true c.operation-item.is c.loop-operation.invariant passes)
    ∙ ap (λ (os : List Operation). find (has_key c.args.actor (as_form c.args.form) c.args.id) os) same

pub loop-operation-preserved : goal.loop-operation-preserved
loop-operation-preserved c =
    let items : List Operation = c.deref-operation-items.result.now in
    let o = c.operation-item.result in
    let misses : has_key c.args.actor (as_form c.args.form) c.args.id o ≡ false = sym c.has_key.ensures ∙ c.if-has_key.false in
    ap (find (has_key c.args.actor (as_form c.args.form) c.args.id)) (take-next items c.loop-operation.operation-index o c.loop-operation-test.true c.operation-item.is)
    ∙ find-last (has_key c.args.actor (as_form c.args.form) c.args.id) (take c.loop-operation.operation-index items) o c.loop-operation.invariant misses
