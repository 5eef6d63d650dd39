use Rattle.std.proofs.Common.{◌≡◌, ◌<◌, ℕ, [], ◌∷◌, length, map, refl, sym, ◌∙◌, subst, arith, true}
use Rattle.cm_base.specs.Configuration.{Configuration}
use Rattle.cm_history.specs.declared.act.Act.{Act}
use Rattle.cm_history.specs.declared.act.Actor.{Actor}
use Rattle.cm_history.specs.Limits.{within_limits}
use Rattle.unit_gate.specs.Opening.{IsGiven}
use Rattle.nexus.specs.declared.resuming.Store.{Store}
use Rattle.nexus.specs.Opening.{AreStored, IsStored, no_recorder, stored}
use Rattle.world_tests.proofs.tests.stores_of.Goals as goal

stored-one : {R : Type 0} (config : Configuration) (unit number : ℕ) (s : Store R) → unit < length config.units → within_limits config unit (Act.Open 3) ≡ true
    → s.history.entries ≡ record { stamp = 1; unit = unit; actor = Actor.Nexus number; seq = 0; moment = 0; act = Act.Open 3 } ∷ [] → IsStored config unit (stored (λ r. no_recorder) s)
stored-one config unit number s low limits is = record {
  given = subst (IsGiven config unit) (sym is) (record {
    is_history = record { own = (refl, tt); rising = (omega arith, tt) };
    asked = (record { configured = low; limits = limits; asked = refl }, tt);
  });
  recorded = tt;
}

pub returns-clause-stored : goal.returns-clause-stored
returns-clause-stored c =
    let one = c.requires in
    rw (c.in_ok-push-2.ensures.items, c.in_ok-push.ensures.items, c.new-stores.ensures.items) (
      stored-one c.args.config.now 0 c.args.first c.in_ok-lower.lower (omega (arith, one)) (sym c.within_limits.ensures ∙ c.if-not-within_limits.false) c.in_ok-lower.ensures,
      (stored-one c.args.config.now 1 c.args.second c.in_ok-upper.upper (omega (arith, one)) (sym c.within_limits-2.ensures ∙ c.if-not-within_limits-2.false) c.in_ok-upper.ensures, tt),
    )
