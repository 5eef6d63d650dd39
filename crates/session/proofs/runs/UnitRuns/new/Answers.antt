use Rattle.std.proofs.Common.{◌≡◌, ℕ, [], ◌∷◌, refl, ap, sym, ◌∙◌, arith, length, length-append}
use Rattle.std.specs.Prelude.{slice_get}
use Rattle.unit_core.specs.UnitState.{UnitState}
use Rattle.unit_core.specs.Unfolded.{IsUnfolded, unfolded}
use Rattle.unit_core.proofs.PublicLaws.{unfolded-first}
use Rattle.session.proofs.Leading.{pushed-each, new-units, first-place}
use Rattle.session.proofs.runs.UnitRuns.new.Goals as goal

pub loop-unit-preserved : goal.loop-unit-preserved
loop-unit-preserved c =
    let new = c.in_ok-push.ensures.items in (
      omega (arith, ap length new, length-append c.loop-unit.units.items (c.in_ok-new.field-0 ∷ []), c.loop-unit.invariant.0),
      λ u s e. pushed-each c.loop-unit.units.items c.in_ok-new.field-0 (λ (n : ℕ) (v : UnitState). (unfolded v ≡ record { config = c.args.config; unit = n; entries = [] }) × IsUnfolded v)
          c.loop-unit.invariant.1
          (unfolded-first c.in_ok-new.field-0 c.args.config (length c.loop-unit.units.items) c.in_ok-new.ensures.config (c.in_ok-new.ensures.unit ∙ sym c.loop-unit.invariant.0) c.in_ok-new.ensures.kept c.in_ok-new.ensures.folded c.in_ok-new.ensures.stands) u s
          (sym (ap (λ l. slice_get l u) new) ∙ e),
    )

pub invariant_of-result : goal.invariant_of-result
invariant_of-result c =
    let count : length c.loop-unit.units.items ≡ length c.args.config.units =
    omega (arith, c.loop-unit.invariant.0, c.loop-unit-test.false, c.loop-unit.auto.unit-end, c.units-unit-end.ensures.count) in (
      new-units c.args.config c.loop-unit.units.items count c.loop-unit.invariant.1,
      λ u s e. (c.loop-unit.invariant.1 u s e).1,
      omega arith,
    )

pub returns-clause-first : goal.returns-clause-first
returns-clause-first c =
    let count : length c.loop-unit.units.items ≡ length c.args.config.units =
    omega (arith, c.loop-unit.invariant.0, c.loop-unit-test.false, c.loop-unit.auto.unit-end, c.units-unit-end.ensures.count) in
    first-place c.args.config c.args.nexus c.loop-unit.units.items count c.loop-unit.invariant.1

pub returns-clause-none : goal.returns-clause-none
returns-clause-none c =
    let count : length c.loop-unit.units.items ≡ length c.args.config.units =
    omega (arith, c.loop-unit.invariant.0, c.loop-unit-test.false, c.loop-unit.auto.unit-end, c.units-unit-end.ensures.count) in
    (_, first-place c.args.config c.args.nexus c.loop-unit.units.items count c.loop-unit.invariant.1, refl)
