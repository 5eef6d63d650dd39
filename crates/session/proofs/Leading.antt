-- Units of which one more act is asked
use Rattle.std.proofs.Common.{◌≡◌, ℕ, zero, suc, ◌+◌, ◌-◌, ◌^◌, ◌<◌, List, [], ◌∷◌, ◌++◌, length, refl, ap, sym, ◌∙◌, subst, arith, true, false, Bool, inl, inr}
use Rattle.std.specs.Prelude.{◌==◌, ◌⊎◌, ◌||◌, Some, Err, map, option_map, slice_get, slice_set, slice_index_or, max}
use Rattle.std.proofs.lemmas.Bool.{cases_eq, eq-eqb}
use Rattle.std.proofs.lemmas.List.{length-map, length-set}
use Rattle.std.proofs.lemmas.Option.{slice_get-map, slice_get_read}
use Rattle.cm_base.specs.Configuration.{Configuration}
use Rattle.cm_history.specs.declared.act.Act.{Act}
use Rattle.cm_history.specs.declared.act.Actor.{Actor}
use Rattle.cm_history.specs.Deeds.{last_stamp}
use Rattle.cm_history.specs.History.{answer}
use Rattle.cm_history.specs.declared.answer.Answer.{Answer}
use Rattle.cm_history.specs.declared.refused.ActRefused.{ActRefused}
use Rattle.cmd_program.specs.declared.step.Outcome.{Outcome}
use Rattle.cmd_program.specs.Running.{Call, outcome_of}
use Rattle.unit_core.specs.UnitState.{UnitState}
use Rattle.unit_core.specs.Unfolded.{IsUnfolded, UnfoldedUnit, unfolded, past, is_full_at}
use Rattle.session.specs.Keeping.{KeepAll}
use Rattle.session.specs.Places.{Place, AreUnitsOf, IsFirst, with_entry, after_act, Leads, Led, StandsFor}

-- one more call
led-more : (p between after : Place) (calls : List Call) (c : Call) → Led p calls between → Leads between c after → Led p (calls ++ c ∷ []) after
led-more p between after [] c led leads = (after, subst (λ (x : Place). Leads x c after) led leads, refl)
led-more p between after (d ∷ ds) c led leads = (led.0, led.1, led-more led.0 between after ds c led.2 leads)

pub stands-more : (p after : Place) (calls : List Call) (c : Call) → StandsFor p calls → Leads p c after → StandsFor after (calls ++ c ∷ [])
stands-more p after calls c stands leads = (stands.0, stands.1, led-more stands.0 p after calls c stands.2 leads)

pub set-same : {X : Type 0} (xs : List X) (i : ℕ) (v : X) → slice_get xs i ≡ Some v → slice_set xs i v ≡ xs
set-same [] i v e = refl
set-same (x ∷ xs) zero v e = let is : x ≡ v = cc in ap (λ y. y ∷ xs) (sym is)
set-same (x ∷ xs) (suc i) v e = ap (λ l. x ∷ l) (set-same xs i v e)

module _ (p : Place) (unit moment : ℕ) (act : Act) (s : UnfoldedUnit) (at : slice_get p.units unit ≡ Some s) where
  abbrev call : Outcome → Call
  call outcome = record { unit = unit; moment = moment; act = act; outcome = outcome }

  pub leads-answered : (after : Place) (found : Answer) → AreUnitsOf p.config p.units
      → found ≡ answer s.config s.entries s.unit (Actor.Nexus p.nexus) moment act → after ≡ after_act p unit s moment act
      → Leads p (call (Outcome.Answered found)) after
  leads-answered after found are is then =
      let its = are.each unit s at in
      record {
        s = s;
        unit = at;
        does = (
          is ∙ ap (λ k. answer k s.entries s.unit (Actor.Nexus p.nexus) moment act) its.0
              ∙ ap (λ u. answer p.config s.entries u (Actor.Nexus p.nexus) moment act) its.1,
          then,
        );
      }

  pub leads-refused : (after : Place) (refused : ActRefused) → (refused ≡ ActRefused.Full → is_full_at s (Actor.Nexus p.nexus) p.stamp act ≡ true)
      → after ≡ p → Leads p (call (outcome_of (Err refused))) after
  leads-refused after ActRefused.Full full same = record { s = s; unit = at; does = (full refl, same) }
  leads-refused after ActRefused.OutOfMemory full same = record { s = s; unit = at; does = same }

pub after-is : (p : Place) (unit place moment : ℕ) (act : Act) (s new : UnfoldedUnit) (latest : ℕ) → place ≡ unit → new ≡ with_entry p s moment act
    → latest ≡ max p.stamp (last_stamp (past s))
    → record p { units = slice_set p.units place new; stamp = latest + 1; seq = p.seq + 1 } ≡ after_act p unit s moment act
after-is p unit place moment act s new latest here grown late =
    ap (λ i. record p { units = slice_set p.units i new; stamp = latest + 1; seq = p.seq + 1 }) here
    ∙ ap (λ (n : UnfoldedUnit). record p { units = slice_set p.units unit n; stamp = latest + 1; seq = p.seq + 1 }) grown
    ∙ ap (λ k. record p { units = slice_set p.units unit (with_entry p s moment act); stamp = k + 1; seq = p.seq + 1 }) late

pub same-units : (p : Place) (unit place : ℕ) (s new : UnfoldedUnit) → place ≡ unit → slice_get p.units unit ≡ Some s → new ≡ s
    → record p { units = slice_set p.units place new } ≡ p
same-units p unit place s new here at same =
    ap (λ (l : List UnfoldedUnit). record p { units = l })
    (ap (λ i. slice_set p.units i new) here ∙ ap (slice_set p.units unit) same ∙ set-same p.units unit s at)

-- the unit that a look-up by index found
pub unit-at : (config : Configuration) (units : List UnitState) (u place : ℕ) (s : UnitState) → AreUnitsOf config (map unfolded units) → u < length config.units
    → place ≡ u → s ≡ slice_index_or units place s → slice_get units u ≡ Some s
unit-at config units u place s are configured is found =
    let count : length units ≡ length config.units = sym (length-map units unfolded) ∙ are.count in
    slice_get_read units (length units) u s refl (omega (arith, count, configured)) (found ∙ ap (λ i. slice_index_or units i s) is)

pub shown-at : (units : List UnitState) (u : ℕ) (s : UnitState) → slice_get units u ≡ Some s → slice_get (map unfolded units) u ≡ Some (unfolded s)
shown-at units u s at = slice_get-map unfolded units u ∙ ap (option_map unfolded) at

pub shown-set : (units : List UnitState) (u : ℕ) (s : UnitState) → map unfolded (slice_set units u s) ≡ slice_set (map unfolded units) u (unfolded s)
shown-set [] u s = refl
shown-set (x ∷ xs) zero s = refl
shown-set (x ∷ xs) (suc u) s = ap (λ l. unfolded x ∷ l) (shown-set xs u s)

-- a fact of each unit is one of each that is shown
pub shown-each : (units : List UnitState) (F : ℕ → UnfoldedUnit → Type 0) → ((u : ℕ) (s : UnitState) → slice_get units u ≡ Some s → F u (unfolded s))
    → (u : ℕ) (s : UnfoldedUnit) → slice_get (map unfolded units) u ≡ Some s → F u s
shown-each [] F h u s e = cc
shown-each (x ∷ xs) F h zero s e = let is : unfolded x ≡ s = cc in subst (F 0) is (h 0 x refl)
shown-each (x ∷ xs) F h (suc u) s e = shown-each xs (λ n. F (suc n)) (λ n w. h (suc n) w) u s e

-- where there is room a stamp is left
pub stamp-left : (s : UnfoldedUnit) (actor : Actor) (stamp : ℕ) (act : Act) → is_full_at s actor stamp act ≡ false → (max stamp (last_stamp (past s)) ≡ 2 ^ 64 - 1 → ⊥)
stamp-left s actor stamp act room last =
    let test : (max stamp (last_stamp (past s)) == 2 ^ 64 - 1) ≡ false = not-first _ _ (not-first _ _ room) in
    let yes = eq-eqb (max stamp (last_stamp (past s))) (2 ^ 64 - 1) last in
    cc
  where
    not-first : (a b : Bool) → (a || b) ≡ false → a ≡ false
    not-first true b e = cc
    not-first false b e = refl

-- ---- a unit in place of one

get-set : {X : Type 0} (xs : List X) (i : ℕ) (v was : X) → slice_get xs i ≡ Some was → slice_get (slice_set xs i v) i ≡ Some v
get-set [] i v was e = cc
get-set (x ∷ xs) zero v was e = refl
get-set (x ∷ xs) (suc i) v was e = get-set xs i v was e

get-set_other : {X : Type 0} (xs : List X) (i j : ℕ) (v : X) → (i ≡ j → ⊥) → slice_get (slice_set xs i v) j ≡ slice_get xs j
get-set_other [] i j v e = refl
get-set_other (x ∷ xs) zero zero v e = absurd (e refl)
get-set_other (x ∷ xs) zero (suc j) v e = refl
get-set_other (x ∷ xs) (suc i) zero v e = refl
get-set_other (x ∷ xs) (suc i) (suc j) v e = get-set_other xs i j v (λ same. e (ap suc same))

pub units-with : (config : Configuration) (units : List UnfoldedUnit) (u : ℕ) (was s : UnfoldedUnit) → AreUnitsOf config units → slice_get units u ≡ Some was
    → s.config ≡ was.config → s.unit ≡ was.unit → AreUnitsOf config (slice_set units u s)
units-with config units u was s are at told number = record {
  count = length-set units u s ∙ are.count;
  each = λ v w e. each v w e (cases_eq u v);
}
  where
    each : (v : ℕ) (w : UnfoldedUnit) → slice_get (slice_set units u s) v ≡ Some w → ((u ≡ v) ⊎ (u ≡ v → ⊥)) → (w.config ≡ config) × (w.unit ≡ v)
    each v w e (inl same) =
        let here : slice_get (slice_set units u s) u ≡ Some w = ap (slice_get (slice_set units u s)) same ∙ e in
        let put = get-set units u s was at in
        let is : w ≡ s = cc in
        let had = are.each u was at in
        (ap (λ (x : UnfoldedUnit). x.config) is ∙ told ∙ had.0, ap (λ (x : UnfoldedUnit). x.unit) is ∙ number ∙ had.1 ∙ same)
    each v w e (inr other) = are.each v w (sym (get-set_other units u v s other) ∙ e)

pub keep-with : (units : List UnitState) (u : ℕ) (was s : UnitState) → KeepAll units → slice_get units u ≡ Some was → IsUnfolded s → KeepAll (slice_set units u s)
keep-with units u was s all at is v w e = go (cases_eq u v)
  where
    go : ((u ≡ v) ⊎ (u ≡ v → ⊥)) → IsUnfolded w
    go (inl same) =
        let here : slice_get (slice_set units u s) u ≡ Some w = ap (slice_get (slice_set units u s)) same ∙ e in
        let put = get-set units u s was at in
        let it : w ≡ s = cc in
        subst IsUnfolded (sym it) is
    go (inr other) = all v w (sym (get-set_other units u v s other) ∙ e)

-- ---- one more unit

pub pushed-each : {X : Type 0} (xs : List X) (x : X) (F : ℕ → X → Type 0) → ((u : ℕ) (v : X) → slice_get xs u ≡ Some v → F u v) → F (length xs) x
    → (u : ℕ) (v : X) → slice_get (xs ++ x ∷ []) u ≡ Some v → F u v
pushed-each [] x F h one zero v e = let is : x ≡ v = cc in subst (F 0) is one
pushed-each [] x F h one (suc u) v e = cc
pushed-each (y ∷ ys) x F h one zero v e = h zero v e
pushed-each (y ∷ ys) x F h one (suc u) v e = pushed-each ys x (λ n. F (suc n)) (λ n w. h (suc n) w) one u v e

-- ---- units of which nothing was asked

abbrev pub AreNew : Configuration → List UnitState → Type 0
AreNew config units = (u : ℕ) (s : UnitState) → slice_get units u ≡ Some s → (unfolded s ≡ record { config = config; unit = u; entries = [] }) × IsUnfolded s

pub new-units : (config : Configuration) (units : List UnitState) → length units ≡ length config.units → AreNew config units → AreUnitsOf config (map unfolded units)
new-units config units count new = record {
  count = length-map units unfolded ∙ count;
  each = shown-each units (λ u s. (s.config ≡ config) × (s.unit ≡ u))
      (λ u s e. (ap (λ (x : UnfoldedUnit). x.config) (new u s e).0, ap (λ (x : UnfoldedUnit). x.unit) (new u s e).0));
}

pub first-place : (config : Configuration) (nexus : ℕ) (units : List UnitState) → length units ≡ length config.units → AreNew config units
    → IsFirst (record { config = config; nexus = nexus; units = map unfolded units; stamp = 0; seq = 0 })
first-place config nexus units count new = record {
  units = new-units config units count new;
  none = shown-each units (λ u s. s.entries ≡ []) (λ u s e. ap (λ (x : UnfoldedUnit). x.entries) (new u s e).0);
  stamp = refl;
  seq = refl;
}

-- a number of 64 bits that is not the last one has a next
pub next-fits : (n : ℕ) → n < 2 ^ 64 → (n ≡ 2 ^ 64 - 1 → ⊥) → n + 1 < 2 ^ 64
next-fits n below other = go (cases_eq n (2 ^ 64 - 1))
  where
    go : ((n ≡ 2 ^ 64 - 1) ⊎ (n ≡ 2 ^ 64 - 1 → ⊥)) → n + 1 < 2 ^ 64
    go (inl last) = absurd (other last)
    go (inr not) = omega (arith, below, not)
