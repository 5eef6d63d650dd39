use Rattle.std.proofs.Common.{rules, ◌≡◌, ℕ, [], ◌∷◌, refl, ap, sym, ◌∙◌, arith, length, length-append}
use Rattle.std.specs.Prelude.{slice_get, slice_index}
use Rattle.std.proofs.lemmas.List.{get_or-replicate}
use Rattle.unit_core.specs.UnitState as unit
use Rattle.unit_core.specs.Unfolded.{IsUnfolded, unfolded}
use Rattle.unit_core.proofs.PublicLaws.{unfolded-first}
use Rattle.trace_replay.proofs.UnitActs.{pushed-each}
use Rattle.trace_replay.proofs.units.Units.new.Goals as goal

pub loop-unit-preserved : goal.loop-unit-preserved
loop-unit-preserved c =
    let new = c.in_ok-push.ensures.items in (
      omega (arith, ap length new, length-append c.loop-unit.units.items (c.in_ok-new.field-0 ∷ []), c.loop-unit.invariant.0),
      λ u value e. pushed-each c.loop-unit.units.items c.in_ok-new.field-0 (λ (n : ℕ) (v : unit.UnitState). (unfolded v ≡ record { config = c.args.config.now; unit = n; entries = [] }) × IsUnfolded v)
          c.loop-unit.invariant.1
          (unfolded-first c.in_ok-new.field-0 c.args.config.now (length c.loop-unit.units.items) c.in_ok-new.ensures.config (c.in_ok-new.ensures.unit ∙ sym c.loop-unit.invariant.0) c.in_ok-new.ensures.kept c.in_ok-new.ensures.folded c.in_ok-new.ensures.stands) u value
          (sym (ap (λ l. slice_get l u) new) ∙ e),
    )

pub returns : goal.returns
returns c =
    let count : length c.loop-unit.units.items ≡ length c.args.config.now.units =
    omega (arith, c.loop-unit.invariant.0, c.loop-unit-test.false, c.loop-unit.auto.unit-end, c.units-count.ensures.count) in
    record {
      done = record {
        limits = c.units-count.ensures.limits;
        count = count;
        each = λ u value e. (c.loop-unit.invariant.1 u value e).0;
        keeps = λ u value e. (c.loop-unit.invariant.1 u value e).1;
        stamp = refl;
        legal = search rules;
        low = search rules;
        stamps = λ u. search rules;
      };
      pumped = record {
        count = omega (arith, c.in_ok-pumps.ensures.len, c.from.ensures, c.units-count.ensures.count);
        each = λ u below.
            ap (λ l. slice_index l u) (c.in_ok-pumps.ensures.items_if_clones_equal (λ y same. same))
            ∙ get_or-replicate c.from.result u 0 0 (omega (arith, below, c.from.ensures, c.units-count.ensures.count));
      };
    }
