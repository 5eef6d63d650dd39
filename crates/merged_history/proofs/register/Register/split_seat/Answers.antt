use Rattle.std.proofs.Common.{ap, sym, subst, arith, ◌∙◌}
use Rattle.atomic_table.specs.Table.{Splits}
use Rattle.merged_history.specs.declared.known.Known.{Known}
use Rattle.merged_history.specs.inner.Rule.{IsKept, root_after, pass_by}
use Rattle.merged_history.proofs.Registering.{splits}
use Rattle.merged_history.proofs.register.Register.split_seat.Goals as goal

pub split_seat-requires : goal.split_seat-requires
split_seat-requires g c =
    let P : Known → Type 0 = λ v. Splits IsKept c.args.root.now.id v (root_after g.N.OfActor.actor v) (pass_by g.N.OfActor.actor v) in
    (c.requires.table ∙ sym c.self.view_is, (let w = c.self.invariant.0 in omega (arith, w)), subst P (sym (ap (λ m. m.0) c.requires.root)) (splits g.N.OfActor.actor _ _ _))
