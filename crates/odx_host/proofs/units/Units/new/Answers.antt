use Rattle.std.proofs.Common.{rules, ◌≡◌, ℕ, [], ◌∷◌, refl, ap, sym, ◌∙◌, arith, length, length-append}
use Rattle.std.specs.Prelude.{slice_get, slice_index}
use Rattle.std.proofs.lemmas.List.{get_or-replicate, length-map}
use Rattle.unit_core.specs.UnitState.{UnitState}
use Rattle.unit_core.specs.Unfolded.{IsUnfolded, unfolded}
use Rattle.unit_core.proofs.PublicLaws.{unfolded-first}
use Rattle.session.proofs.PublicLaws.{pushed-each, shown-each}
use Rattle.odx_host.proofs.units.Units.new.Goals as goal

pub loop-unit-preserved : goal.loop-unit-preserved
loop-unit-preserved c =
    let new = c.in_ok-push.ensures.items in (
      omega (arith, ap length new, length-append c.loop-unit.units.items (c.in_ok-new.field-0 ∷ []), c.loop-unit.invariant.0),
      λ u x e. pushed-each c.loop-unit.units.items c.in_ok-new.field-0 (λ (n : ℕ) (v : UnitState). (unfolded v ≡ record { config = c.args.config.now; unit = n; entries = [] }) × IsUnfolded v)
          c.loop-unit.invariant.1
          (unfolded-first c.in_ok-new.field-0 c.args.config.now (length c.loop-unit.units.items) c.in_ok-new.ensures.config (c.in_ok-new.ensures.unit ∙ sym c.loop-unit.invariant.0) c.in_ok-new.ensures.kept c.in_ok-new.ensures.folded c.in_ok-new.ensures.stands) u x
          (sym (ap (λ l. slice_get l u) new) ∙ e),
    )

pub invariant_of-result : goal.invariant_of-result
invariant_of-result c = λ u x e. (c.loop-unit.invariant.1 u x e).1

pub returns : goal.returns
returns c =
    let count : length c.loop-unit.units.items ≡ length c.args.config.now.units =
    omega (arith, c.loop-unit.invariant.0, c.loop-unit-test.false, c.loop-unit.auto.unit-end, c.units-count.ensures.count) in
    record {
      count = length-map c.loop-unit.units.items unfolded ∙ count;
      each = shown-each c.loop-unit.units.items (λ u x. x ≡ record { config = c.args.config.now; unit = u; entries = [] }) (λ u x e. (c.loop-unit.invariant.1 u x e).0);
      legal = search rules;
      made = search rules;
      latest = search rules;
      own = search rules;
      stamp = refl;
      asked = refl;
      few_asked = omega arith;
      pumps = omega (arith, c.in_ok-pumped.ensures.len, c.from.ensures, c.units-count.ensures.count);
      pumped = λ u below.
          ap (λ l. slice_index l u) (c.in_ok-pumped.ensures.items_if_clones_equal (λ y same. same))
          ∙ get_or-replicate c.from.result u 0 0 (omega (arith, below, c.from.ensures, c.units-count.ensures.count));
      few_pumped = λ u. omega arith;
    }
