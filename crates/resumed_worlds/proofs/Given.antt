-- A unit may go on with the entries of its journal
use Rattle.std.proofs.Common.{◌≡◌, ◌<◌, ℕ, List, [], ◌∷◌, length, refl, ap, ◌∙◌, arith, true}
use Rattle.std.specs.Prelude.{◌==◌, ◌&&◌, nat_lt, Some}
use Rattle.std.proofs.lemmas.Bool.{eqb-true, ltb-true}
use Rattle.cm_base.specs.Configuration.{Configuration}
use Rattle.cm_history.specs.Legal.{may_ask}
use Rattle.cm_history.specs.Limits.{within_limits}
use Rattle.cm_history.specs.declared.act.Entry.{Entry}
use Rattle.cm_history.proofs.PublicLaws.{Each, and_first, and_second}
use Rattle.journal_disk.specs.Journal.{AreInOrder}
use Rattle.journal_disk.specs.Opened.{may_follow}
use Rattle.merged_history.specs.Own.{IsAsked, Rises}
use Rattle.nexus.specs.Opening.{IsStored, StoredUnit}
use Rattle.unit_gate.specs.Opening.{IsGiven}

-- what is known of an entry that may stand behind one of this stamp
record Follows (config : Configuration) (unit last : ℕ) (e : Entry) : Type 0 where
  here : e.unit ≡ unit
  later : last < e.stamp
  asked : IsAsked config e

follows-of : (config : Configuration) (unit last : ℕ) (e : Entry) → unit < length config.units → may_follow config unit last e ≡ true → Follows config unit last e
follows-of config unit last e low is =
    let three = and_first ((e.unit == unit) && within_limits config unit e.act && may_ask unit e.actor e.act) (nat_lt last e.stamp) is in
    let two = and_first ((e.unit == unit) && within_limits config unit e.act) (may_ask unit e.actor e.act) three in
    let here : e.unit ≡ unit = eqb-true e.unit unit (and_first (e.unit == unit) (within_limits config unit e.act) two) in
    record {
      here = here;
      later = ltb-true last e.stamp (and_second ((e.unit == unit) && within_limits config unit e.act && may_ask unit e.actor e.act) (nat_lt last e.stamp) is);
      asked = record {
        configured = omega (arith, low, here);
        limits = ap (λ u. within_limits config u e.act) here ∙ and_second (e.unit == unit) (within_limits config unit e.act) two;
        asked = ap (λ u. may_ask u e.actor e.act) here ∙ and_second ((e.unit == unit) && within_limits config unit e.act) (may_ask unit e.actor e.act) three;
      };
    }

-- what is known of entries that may stand behind one of this stamp
record Follow (config : Configuration) (unit last : ℕ) (es : List Entry) : Type 0 where
  own : Each (λ (e : Entry). e.unit ≡ unit) es
  rising : Rises last es
  asked : Each (IsAsked config) es

follow-of : (config : Configuration) (unit last : ℕ) (es : List Entry) → unit < length config.units → AreInOrder config unit last es → Follow config unit last es
follow-of config unit last [] low order = record { own = tt; rising = tt; asked = tt }
follow-of config unit last (e ∷ es) low order =
    let first = follows-of config unit last e low order.0 in
    let rest = follow-of config unit e.stamp es low order.1 in
    record { own = (first.here, rest.own); rising = (first.later, rest.rising); asked = (first.asked, rest.asked) }

order-given : (config : Configuration) (unit : ℕ) (es : List Entry) → unit < length config.units → AreInOrder config unit 0 es → IsGiven config unit es
order-given config unit es low order =
    let all = follow-of config unit 0 es low order in
    record { is_history = record { own = all.own; rising = all.rising }; asked = all.asked }

-- the unit may go on with entries in order, which its recorder has recorded
pub stored-of : (config : Configuration) (unit : ℕ) (s : StoredUnit) → unit < length config.units → AreInOrder config unit 0 s.history → s.recorder.recorded ≡ Some s.history
    → IsStored config unit s
stored-of config unit s low order told = record { given = order-given config unit s.history low order; recorded = rw told refl }
