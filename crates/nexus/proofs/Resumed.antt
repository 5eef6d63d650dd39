-- A world goes on with histories that were recorded before
use Rattle.std.proofs.Common.{◌<◌, ◌≤◌, ◌≡◌, ℕ, zero, suc, ◌+◌, List, [], ◌∷◌, ◌++◌, length, map, take, refl, ap, sym, ◌∙◌, subst, arith, false, true, Bool, Some, None, Ok, Err, IfOk, length-append, append_assoc, append-nil, add-one}
use Rattle.std.specs.Prelude.{slice_get, slice_index_or, max, nat_lt, Option, ◌||◌, if◌then◌else◌}
use Rattle.std.specs.declared.result.Result.{Result}
use Rattle.std.proofs.Math.Nat.{max-le}
use Rattle.std.proofs.lemmas.Bool.Decides.{nat_tests}
use Rattle.std.proofs.lemmas.List.{length-map}
use Rattle.cm_base.specs.Configuration.{Configuration}
use Rattle.cm_base.specs.Units.{unit_of}
use Rattle.cm_history.specs.declared.act.Actor.{Actor}
use Rattle.cm_history.specs.declared.act.Actor.TheVariants.{Nexus, Pump}
use Rattle.cm_history.specs.declared.act.Entry.{Entry}
use Rattle.cm_history.specs.History.{past_of}
use Rattle.cm_history.specs.Room.{is_full}
use Rattle.cm_history.proofs.PublicLaws.{Each}
use Rattle.unit_core.specs.UnitState.{UnitState, Stands}
use Rattle.unit_gate.specs.declared.kin.RecorderFacts.{RecorderFacts}
use Rattle.unit_gate.specs.declared.resuming.ResumeRefused.{ResumeRefused}
use Rattle.unit_gate.specs.Opening.{IsGiven, bad_entry, first_bad, has_late_number, is_bad_behind, last_number, opening_entries}
use Rattle.unit_gate.specs.Recorded.{HasRecorded, RecordedState, StandsFor, kin_of, marks_of, without_last}
use Rattle.unit_gate.proofs.PublicLaws.{opening-recorded}
use Rattle.nexus.specs.Opening.{StoredUnit, IsStored, AreStored, bad_history, first_of, number_after, numbers_after, next_nexus}
use Rattle.nexus.specs.inner.Building.{BegunState, IsBegunOf, HasGoneOn, HaveGoneOn, GoneOnSoFar, RecordersSoFar}
use Rattle.nexus.proofs.Opening.{begun-none, begun-more, begun-all}

-- an item that was read at its index
pub get-mapped : {X Y : Type 0} (f : X → Y) (xs : List X) (n : ℕ) (x : X) → n < length xs → x ≡ slice_index_or xs n x → slice_get (map f xs) n ≡ Some (f x)
get-mapped f [] n x low is = absurd (omega (arith, low))
get-mapped f (y ∷ ys) zero x low is = ap (λ z. Some (f z)) (sym is)
get-mapped f (y ∷ ys) (suc n) x low is = get-mapped f ys n x (omega (arith, low)) is

pub if-ok : {A E : Type 0} (r : Result A E) (P Q : A → Type 0) → IfOk r P → ((a : A) → P a → Q a) → IfOk r Q
if-ok (Ok a) P Q p all = all a p
if-ok (Err e) P Q p all = tt

-- ---- units go on, one after the other

get-behind : (gone rest : List StoredUnit) (n : ℕ) (s : StoredUnit) → length gone ≡ n → slice_get (gone ++ rest) n ≡ Some s → (more : List StoredUnit) × (rest ≡ s ∷ more)
get-behind [] [] n s long at = cc
get-behind [] (r ∷ rs) zero s long at = let same : r ≡ s = cc in (rs, ap (λ x. x ∷ rs) same)
get-behind [] (r ∷ rs) (suc n) s long at = absurd (omega (arith, long))
get-behind (g ∷ gs) rest zero s long at = absurd (omega (arith, long))
get-behind (g ∷ gs) rest (suc n) s long at = get-behind gs rest n s (omega (arith, long)) at

have-push : (config : Configuration) (n : ℕ) (ss : List StoredUnit) (us : List UnitState) (s : StoredUnit) (u : UnitState) → HaveGoneOn config n ss us → HasGoneOn config (n + length ss) s u → HaveGoneOn config n (ss ++ s ∷ []) (us ++ u ∷ [])
have-push config n [] [] s u all is = let e : n + 0 ≡ n = omega arith in (subst (λ k. HasGoneOn config k s u) e is, tt)
have-push config n [] (v ∷ us) s u all is = absurd all
have-push config n (t ∷ ss) [] s u all is = absurd all
have-push config n (t ∷ ss) (v ∷ us) s u all is =
    let e : n + suc (length ss) ≡ suc n + length ss = omega arith in (all.0, have-push config (suc n) ss us s u all.1 (subst (λ k. HasGoneOn config k s u) e is))

module _ (config : Configuration) (all : List StoredUnit) where
  pub on-first : AreStored config 0 all → GoneOnSoFar config all [] 0
  on-first stored = record { gone = []; rest = all; whole = refl; count = refl; have = tt; stored = stored; bad = refl }

  module _ (units : List UnitState) (n : ℕ) (s : StoredUnit) (so : GoneOnSoFar config all units n) (at : slice_get all n ≡ Some s) where
    next-is : (more : List StoredUnit) × (so.rest ≡ s ∷ more)
    next-is = get-behind so.gone so.rest n s so.count (subst (λ l. slice_get l n ≡ Some s) (sym so.whole) at)

    stored-next : IsStored config n s × AreStored config (suc n) next-is.0
    stored-next = let here : AreStored config n (s ∷ next-is.0) = subst (AreStored config n) next-is.1 so.stored in (here.0, here.1)

    bad-next : bad_history config 0 all ≡ first_of n (bad_entry config n s.history) (bad_history config (suc n) next-is.0)
    bad-next = sym so.bad ∙ ap (bad_history config n) next-is.1

    -- its history may be gone on with
    pub on-given : IsGiven config n s.history
    on-given = stored-next.0.given

    -- it has gone on
    pub on-more : (u : UnitState) → HasGoneOn config n s u → bad_entry config n s.history ≡ None → GoneOnSoFar config all (units ++ u ∷ []) (suc n)
    on-more u has good = record {
      gone = so.gone ++ s ∷ [];
      rest = next-is.0;
      whole = append_assoc so.gone (s ∷ []) next-is.0 ∙ ap (λ l. so.gone ++ l) (sym next-is.1) ∙ so.whole;
      count = length-append so.gone (s ∷ []) ∙ ap (λ k. k + 1) so.count ∙ add-one n;
      have = (let e : n ≡ 0 + length so.gone = (let c = so.count in omega (arith, c)) in have-push config 0 so.gone units s u so.have (subst (λ k. HasGoneOn config k s u) e has));
      stored = stored-next.1;
      bad = sym (bad-next ∙ ap (λ o. first_of n o (bad_history config (suc n) next-is.0)) good);
    }

    -- it is the first whose history is bad
    pub on-bad : (k : ℕ) → bad_entry config n s.history ≡ Some k → bad_history config 0 all ≡ Some (ResumeRefused.BadHistory n k)
    on-bad k bad = bad-next ∙ ap (λ o. first_of n o (bad_history config (suc n) next-is.0)) bad

  -- all have
  pub on-all : (units : List UnitState) (n : ℕ) → GoneOnSoFar config all units n → n ≡ length all → HaveGoneOn config 0 all units × (bad_history config 0 all ≡ None)
  on-all units n so last =
      let none : so.rest ≡ [] = nothing so.rest (let a = ap length so.whole in let b = length-append so.gone so.rest in let c = so.count in omega (arith, a, b, c, last)) in
      let same : so.gone ≡ all = sym (append-nil so.gone) ∙ ap (λ l. so.gone ++ l) (sym none) ∙ so.whole in (
        subst (λ l. HaveGoneOn config 0 l units) same so.have,
        sym so.bad ∙ ap (bad_history config n) none,
      )
    where
      nothing : (xs : List StoredUnit) → length xs ≡ 0 → xs ≡ []
      nothing [] e = refl
      nothing (x ∷ xs) e = absurd (omega (arith, e))

-- ---- they get their recorders

module _ {X : Type 0} (store_of : X → StoredUnit) (P : X → Type 0) (config : Configuration) (all : List X) where
  pub recorders-none : (units : List UnitState) → HaveGoneOn config 0 (map store_of all) units → AreStored config 0 (map store_of all) → Each P all → RecordersSoFar store_of P config all all units [] 0
  recorders-none units have stored fits = record { begun_are = begun-none store_of config all; have = have; stored = stored; fits_rest = fits }

  -- as long as a store is left, a unit is
  pub recorders-left : (rest more : List X) (units : List UnitState) (begun : List BegunState) (n : ℕ) (x : X) → RecordersSoFar store_of P config all rest units begun n → rest ≡ x ∷ more → units ≡ [] → ⊥
  recorders-left rest more units begun n x so next none = subst (λ l. HaveGoneOn config n l []) (ap (map store_of) next) (subst (HaveGoneOn config n (map store_of rest)) none so.have)

  module _ (rest more : List X) (units left : List UnitState) (begun : List BegunState) (n : ℕ) (x : X) (u : UnitState) (so : RecordersSoFar store_of P config all rest units begun n) (next : rest ≡ x ∷ more) (unit : units ≡ u ∷ left) where
    has : HasGoneOn config n (store_of x) u × HaveGoneOn config (suc n) (map store_of more) left
    has = let both : HaveGoneOn config n (map store_of (x ∷ more)) (u ∷ left) = subst (λ l. HaveGoneOn config n (map store_of l) (u ∷ left)) next (subst (HaveGoneOn config n (map store_of rest)) unit so.have) in (both.0, both.1)

    stored-here : IsStored config n (store_of x) × AreStored config (suc n) (map store_of more)
    stored-here = let both : AreStored config n (map store_of (x ∷ more)) = subst (λ l. AreStored config n (map store_of l)) next so.stored in (both.0, both.1)

    fits-here : P x × Each P more
    fits-here = let both : Each P (x ∷ more) = subst (Each P) next so.fits_rest in (both.0, both.1)

    pub recorder-fits : P x
    recorder-fits = fits-here.0

    -- its recorder has recorded the entries that the unit has dropped
    pub has-recorded : HasRecorded u (store_of x).recorder.recorded (opening_entries config n (store_of x).history)
    has-recorded = opening-recorded u (store_of x).recorder.recorded config n (store_of x).history stored-here.0.given has.0.stands has.0.folded stored-here.0.recorded

    pub recorders-more : (b : BegunState) → ((h : List Entry) → HasRecorded u (store_of x).recorder.recorded h → StandsFor b.unit h)
        → kin_of b.unit ≡ record { config = u.config; unit = u.unit; opening = without_last u.folded (store_of x).recorder; folded = u.folded }
        → marks_of b.unit ≡ (store_of x).recorder.faults ∷ u.folded ∷ 0 ∷ [] → b.unit.recorder ≡ (store_of x).recorder → b.history ≡ (store_of x).history
        → RecordersSoFar store_of P config all more left (begun ++ b ∷ []) (suc n)
    recorders-more b stands kin marks recorder history = record {
      begun_are = begun-more store_of config all rest more begun n x b so.begun_are next record {
        kin =
            kin
            ∙ ap (λ c. record { config = c; unit = u.unit; opening = without_last u.folded (store_of x).recorder; folded = u.folded }) has.0.config_is
            ∙ ap (λ (k : ℕ). record { config = config; unit = k; opening = without_last u.folded (store_of x).recorder; folded = u.folded }) has.0.unit_is
            ∙ ap (λ k. record { config = config; unit = n; opening = without_last k (store_of x).recorder; folded = k }) has.0.folded;
        history_is = history;
        stands = stands (opening_entries config n (store_of x).history) has-recorded;
        marks = marks ∙ ap (λ k. (store_of x).recorder.faults ∷ k ∷ 0 ∷ []) has.0.folded;
        recorder_is = recorder;
      };
      have = has.1;
      stored = stored-here.1;
      fits_rest = fits-here.1;
    }

-- ---- the number of the next nexus

or-first : (a b : Bool) → (a || b) ≡ false → a ≡ false
or-first true b e = cc
or-first false b e = refl

none-late : (config : Configuration) (unit : ℕ) (before es : List Entry) → first_bad config unit before es ≡ None → Each (λ (e : Entry). has_late_number e.actor ≡ false) es
none-late config unit before [] none = tt
none-late config unit before (e ∷ es) none = go (is_bad_behind config unit before e) refl none (none-late config unit (before ++ (e ∷ [])) es)
  where
    go : (t : Bool) → is_bad_behind config unit before e ≡ t → (if t then Some (length before) else first_bad config unit (before ++ (e ∷ [])) es) ≡ None
        → (first_bad config unit (before ++ (e ∷ [])) es ≡ None → Each (λ (x : Entry). has_late_number x.actor ≡ false) es)
        → (has_late_number e.actor ≡ false) × Each (λ (x : Entry). has_late_number x.actor ≡ false) es
    go true is none later = cc
    go false is none later = (or-first (has_late_number e.actor) (is_full (unit_of config unit) (length before) (past_of config unit before) e.actor 0 e.act) is, later none)

-- no history that is not bad has too great a number
pub good-numbers : (config : Configuration) (n : ℕ) (ss : List StoredUnit) → bad_history config n ss ≡ None → Each (λ (s : StoredUnit). Each (λ (e : Entry). has_late_number e.actor ≡ false) s.history) ss
good-numbers config n [] none = tt
good-numbers config n (s ∷ ss) none = go (bad_entry config n s.history) refl none (good-numbers config (suc n) ss)
  where
    go : (o : Option ℕ) → bad_entry config n s.history ≡ o → first_of n o (bad_history config (suc n) ss) ≡ None
        → (bad_history config (suc n) ss ≡ None → Each (λ (t : StoredUnit). Each (λ (e : Entry). has_late_number e.actor ≡ false) t.history) ss)
        → Each (λ (e : Entry). has_late_number e.actor ≡ false) s.history × Each (λ (t : StoredUnit). Each (λ (e : Entry). has_late_number e.actor ≡ false) t.history) ss
    go None is none later = (none-late config n [] s.history is, later none)
    go (Some k) is none later = cc

number-few : (actor : Actor) → has_late_number actor ≡ false → number_after actor ≤ last_number + 1
number-few (Nexus n) early = let high : nat_lt last_number n ≡ false = early in grind (arith, nat_tests)
number-few (Pump unit) early = omega arith

numbers-few : (es : List Entry) → Each (λ (e : Entry). has_late_number e.actor ≡ false) es → numbers_after es ≤ last_number + 1
numbers-few [] early = omega arith
numbers-few (e ∷ es) early = max-le (number-few e.actor early.0) (numbers-few es early.1)

-- so the next nexus has a number that leaves room
pub nexus-few : (ss : List StoredUnit) → Each (λ (s : StoredUnit). Each (λ (e : Entry). has_late_number e.actor ≡ false) s.history) ss → next_nexus ss ≤ last_number + 1
nexus-few [] early = omega arith
nexus-few (s ∷ ss) early = max-le (numbers-few s.history early.0) (nexus-few ss early.1)

pub each-of : {X Y : Type 0} (f : X → Y) (P : Y → Type 0) (xs : List X) → Each P (map f xs) → Each (λ x. P (f x)) xs
each-of f P [] all = tt
each-of f P (x ∷ xs) all = (all.0, each-of f P xs all.1)

pub numbers-more : (xs : List Entry) (n : ℕ) (e : Entry) → slice_get xs n ≡ Some e → numbers_after (take (n + 1) xs) ≡ max (number_after e.actor) (numbers_after (take n xs))
numbers-more [] n e at = cc
numbers-more (x ∷ xs) zero e at = let same : x ≡ e = cc in ap (λ (y : Entry). max (number_after y.actor) 0) same
numbers-more (x ∷ xs) (suc n) e at =
    let next : suc n + 1 ≡ suc (n + 1) = omega arith in
    let rest = numbers-more xs n e at in
    ap (λ k. numbers_after (take k (x ∷ xs))) next
    ∙ ap (max (number_after x.actor)) rest
    ∙ swap (number_after x.actor) (number_after e.actor) (numbers_after (take n xs))
  where
    swap : (a b c : ℕ) → max a (max b c) ≡ max b (max a c)
    swap a b c = omega arith

pub nexus-more : (ss : List StoredUnit) (n : ℕ) (s : StoredUnit) → slice_get ss n ≡ Some s → next_nexus (take (n + 1) ss) ≡ max (numbers_after s.history) (next_nexus (take n ss))
nexus-more [] n s at = cc
nexus-more (x ∷ xs) zero s at = let same : x ≡ s = cc in ap (λ (y : StoredUnit). max (numbers_after y.history) 0) same
nexus-more (x ∷ xs) (suc n) s at =
    let next : suc n + 1 ≡ suc (n + 1) = omega arith in
    let rest = nexus-more xs n s at in
    ap (λ k. next_nexus (take k (x ∷ xs))) next
    ∙ ap (max (numbers_after x.history)) rest
    ∙ swap (numbers_after x.history) (numbers_after s.history) (next_nexus (take n xs))
  where
    swap : (a b c : ℕ) → max a (max b c) ≡ max b (max a c)
    swap a b c = omega arith
