use Rattle.std.proofs.Common.{◌≡◌, ◌++◌, ◌∷◌, [], ap, sym, subst, arith, length, length-append, List}
use Rattle.cm_history.specs.Deeds.{Deed}
use Rattle.plain_model.proofs.NewUnits.{HaveDoneNothing, one-more}
use Rattle.plain_model.proofs.units.PlainUnits.new.Goals as goal

pub loop-units-preserved : goal.loop-units-preserved
loop-units-preserved c =
    let before : List (List Deed) = c.loop-units.units.items in
    let grown : c.push.new.self.items ≡ before ++ c.new.result ∷ [] = c.in_ok-push.ensures.items in (
      omega (arith, ap length grown, length-append before (c.new.result ∷ []), c.loop-units-test.true, c.len.ensures),
      subst HaveDoneNothing (sym grown) (one-more before c.new.result c.new.ensures c.loop-units.invariant.1),
    )
