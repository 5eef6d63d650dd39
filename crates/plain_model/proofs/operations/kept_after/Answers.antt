use Rattle.std.proofs.Common.{◌≡◌, true, refl, sym, ◌∙◌}
use Rattle.cm_history.specs.Operations.{makes_operation}
use Rattle.plain_model.proofs.operations.kept_after.Goals as goal

pub returns : goal.returns
returns c =
    let made : makes_operation c.args.deed.now ≡ true = sym c.makes_operation.ensures ∙ c.if-not-makes_operation.false in
    rw (made, c.in_ok-push.ensures.items, c.in_ok-next.ensures, c.in_ok-made.ensures) refl
