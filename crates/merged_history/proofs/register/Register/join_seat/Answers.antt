use Rattle.std.proofs.Common.{◌≡◌, ℕ, ◌∷◌, [], ap, sym, subst, arith, ◌∙◌}
use Rattle.atomic_table.specs.Table.{Joins, Me}
use Rattle.merged_history.specs.declared.known.Known.{Known}
use Rattle.merged_history.specs.declared.known.Known.TheVariants.{Root, Spent}
use Rattle.merged_history.specs.inner.Rule.{IsKept, with_joined, made_in, joined_in, joined_as}
use Rattle.merged_history.proofs.Registering.{joins, loads-at}
use Rattle.merged_history.proofs.register.Register.join_seat.Goals as goal

pub join_seat-requires : goal.join_seat-requires
join_seat-requires g c =
    let P : Known → Type 0 = λ v. Joins IsKept c.args.root.now.id v c.args.pass.id c.args.pass.me.0 (with_joined g.N.Made.own v c.args.pass.me.0) Spent in
    let Q : Known → Known → Type 0 = λ v w. Joins IsKept c.args.root.now.id v c.args.pass.id w (with_joined g.N.Made.own v w) Spent in (
      c.requires.table.0 ∙ sym c.self.view_is,
      c.requires.table.1 ∙ sym c.self.view_is,
      ap (λ m. m.1) c.requires.pass,
      (let w = c.self.invariant.0 in omega (arith, w)),
      subst P (sym (ap (λ m. m.0) c.requires.root)) (subst (Q _) (sym (ap (λ m. m.0) c.requires.pass)) (joins g.N.Made.own _ _ _ _ _ _)),
    )

pub load-requires : goal.load-requires
load-requires g c =
    let root = c.args.root.now.me.0 in
    let pass = c.args.pass.me.0 in
    let me_is : c.join_seat.new.seat.me ≡ (Root (made_in root) (joined_as pass g.N.Made.own ∷ joined_in root), []) =
    c.join_seat.ensures.2 ∙ ap (λ (m : Me ℕ Known). (with_joined g.N.Made.own m.0 pass, m.1)) c.requires.root
    ∙ ap (λ (m : Me ℕ Known). (with_joined g.N.Made.own (Root (made_in root) (joined_in root)) m.0, [])) c.requires.pass in
    (c.join_seat.ensures.0 ∙ c.requires.table.0 ∙ sym c.self.view_is, (let w = c.self.invariant.0 in omega (arith, w)), loads-at _ _ _ _ _ me_is)
