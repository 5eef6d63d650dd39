use Rattle.std.proofs.Common.{◌≡◌, ◌+◌, ◌∷◌, [], ◌∙◌, length, length-append, ap, subst, arith}
use Rattle.nexus.specs.inner.Building.{IsNewUnit}
use Rattle.nexus.proofs.Opening.{new-push}
use Rattle.nexus.proofs.beginning.new_units.Goals as goal

pub loop-number-preserved : goal.loop-number-preserved
loop-number-preserved c =
    let e : c.loop-number.number ≡ 0 + length c.loop-number.units.items = (let a = c.loop-number.invariant.count in omega (arith, a)) in
    let made = c.in_ok-unit.ensures in
    record {
      new = rw c.in_ok-push.ensures.items (new-push c.args.config.now 0 c.loop-number.units.items c.in_ok-unit.unit c.loop-number.invariant.new
          (subst (λ k. IsNewUnit c.args.config.now k c.in_ok-unit.unit) e (record { stands = made.stands; folded = made.folded; config_is = made.config; unit_is = made.unit })));
      count = ap length c.in_ok-push.ensures.items ∙ length-append c.loop-number.units.items (c.in_ok-unit.unit ∷ []) ∙ ap (λ n. n + 1) c.loop-number.invariant.count;
    }
