-- The lists of entries for which a unit with its recorder stands
use Rattle.std.proofs.Common.{◌<◌, ◌≤◌, ◌≡◌, ℕ, ◌+◌, ◌-◌, ◌^◌, List, [], ◌∷◌, ◌++◌, length, take, refl, ap, sym, ◌∙◌, subst, arith, take_all, true, false, Bool, inl, inr}
use Rattle.std.specs.Prelude.{max, min, fold, nat_lt, Option, Some, None, option_map, IfSome}
use Rattle.std.proofs.lemmas.Bool.Decides.{nat_tests}
use Rattle.cm_base.specs.Configuration.{Configuration}
use Rattle.cm_history.specs.declared.act.Entry.{Entry}
use Rattle.cm_history.specs.Asked.{AllAsked}
use Rattle.cm_history.specs.Deeds.{Deed, last_stamp}
use Rattle.cm_history.specs.History.{one_more, past_of}
use Rattle.cm_history.specs.Image.{Image}
use Rattle.cm_history.specs.Legal.{may_ask}
use Rattle.cm_history.specs.Limits.{within_limits}
use Rattle.cm_history.proofs.PublicLaws.{Each, Each-by, Each-in, length-take-short}
use Rattle.merged_history.specs.Own.{IsAsked}
use Rattle.merged_history.specs.PassRules.{IsHistory}
use Rattle.recorder.specs.Recording.{with_more, Rose}
use Rattle.unit_core.specs.UnitState.{Stands}
use Rattle.unit_core.specs.Acting as unit
use Rattle.unit_gate.specs.declared.asked.AskedAct.{AskedAct}
use Rattle.unit_gate.specs.declared.kin.RecorderFacts.{RecorderFacts}
use Rattle.unit_gate.specs.Recorded.{RecordedState, StandsFor, HasRecorded, kin_of, without_last}
use Rattle.unit_gate.specs.Asking.{entry_of}
use Rattle.unit_gate.proofs.Lists.{take-front, length-parts, more-none}
use Rattle.unit_gate.proofs.Stamps.{rises-push, history-long, all-own}

-- ---- a unit and its recorder come together

all-left : (told : Option (List Entry)) → option_map (λ es. take (length es - 0) es) told ≡ told
all-left None = refl
all-left (Some es) = ap Some (take_all (length es - 0) es (omega arith))

-- a recorder of which nothing is left out
pub without-none : (r : RecorderFacts) → without_last 0 r ≡ r
without-none r = ap (λ (told : Option (List Entry)). record r { recorded = told }) (all-left r.recorded)

told-over : (told : Option (List Entry)) (n : ℕ) (h : List Entry) → IfSome told (λ es. es ≡ take n h) → told ≡ with_more (option_map (λ es. take (length es - n) es) told) (take n h)
told-over None n h first = refl
told-over (Some es) n h first =
    let long = ap length first in
    let short = length-take-short n h in
    let none : length es - n ≡ 0 = omega (arith, long, short) in
    ap Some (first ∙ ap (λ k. take k es ++ take n h) (sym none))

-- the recorder has recorded the entries that the unit has dropped
pub stands-over : (s : RecordedState) (h : List Entry) → HasRecorded s.unit s.recorder.recorded h → s.opening ≡ without_last s.unit.folded s.recorder → StandsFor s h
stands-over s h is opening = record {
  unit = is.unit_is;
  rising = is.rising;
  recorded = told-over s.recorder.recorded s.unit.folded h is.first ∙ ap (λ (r : RecorderFacts). with_more r.recorded (take s.unit.folded h)) (sym opening);
}

-- a unit that nothing was asked of yet
pub stands-first : (s : RecordedState) → Stands s.unit [] → s.recorder ≡ s.opening → s.unit.folded ≡ 0 → StandsFor s []
stands-first s stands same folded = record {
  unit = stands;
  rising = tt;
  recorded = ap (λ (r : RecorderFacts). r.recorded) same ∙ sym (more-none s.opening.recorded) ∙ ap (λ n. with_more s.opening.recorded (take n [])) (sym folded);
}

-- ---- one entry more, and more that are recorded

-- the entry of an act is the same by the unit's image
pub entry-is : (s : RecordedState) (h : List Entry) (asked : AskedAct) → StandsFor s h
    → unit.entry_at s.unit asked.actor asked.seq asked.stamp asked.moment asked.act ≡ entry_of (kin_of s) h asked
entry-is s h asked is =
    ap (λ (n : ℕ). record { stamp = max asked.stamp n + 1; unit = s.unit.unit; actor = asked.actor; seq = asked.seq; moment = asked.moment; act = asked.act }) (sym (ap (λ (j : Image). j.last_stamp) is.unit.image))

-- one entry more
pub stands-more : (s new : RecordedState) (h : List Entry) (e : Entry) → StandsFor s h → Stands new.unit (h ++ e ∷ []) → new.unit.folded ≡ s.unit.folded → new.recorder ≡ s.recorder → new.opening ≡ s.opening
    → last_stamp (past_of s.unit.config s.unit.unit h) < e.stamp → StandsFor new (h ++ e ∷ [])
stands-more s new h e is stands folded recorder opening above = record {
  unit = stands;
  rising = rises-push s.unit.config s.unit.unit h e is.unit.own is.rising above;
  recorded =
      ap (λ (r : RecorderFacts). r.recorded) recorder ∙ is.recorded
      ∙ ap (λ l. with_more s.opening.recorded l) (sym (take-front s.unit.folded h (e ∷ []) is.unit.few))
      ∙ ap (λ n. with_more s.opening.recorded (take n (h ++ e ∷ []))) (sym folded)
      ∙ ap (λ (r : RecorderFacts). with_more r.recorded (take new.unit.folded (h ++ e ∷ []))) (sym opening);
}

-- the same entries, more of which are recorded
pub stands-folded : (s new : RecordedState) (h : List Entry) → StandsFor s h → Stands new.unit h → new.opening ≡ s.opening
    → new.recorder.recorded ≡ with_more s.opening.recorded (take new.unit.folded h) → StandsFor new h
stands-folded s new h is stands opening told = record {
  unit = stands;
  rising = is.rising;
  recorded = told ∙ ap (λ (r : RecorderFacts). with_more r.recorded (take new.unit.folded h)) (sym opening);
}

-- the entries are those that were dropped and those that are kept
pub stands-long : (s : RecordedState) (h : List Entry) → StandsFor s h → s.unit.folded + length s.unit.kept ≡ length h
stands-long s h is = length-parts s.unit.folded h s.unit.kept is.unit.keeps is.unit.few

-- and their number is at most the last stamp
pub stands-few : (s : RecordedState) (h : List Entry) → StandsFor s h → length h ≤ last_stamp (past_of s.unit.config s.unit.unit h)
stands-few s h is = history-long s.unit.config s.unit.unit h is.unit.own is.rising

-- where none is kept, all were dropped
pub all-folded : (s : RecordedState) (h : List Entry) → StandsFor s h → s.unit.kept ≡ [] → s.unit.folded ≡ length h
all-folded s h is none = let long = stands-long s h is in let short = ap length none in omega (arith, long, short)

-- it is a history of the unit
pub stands-history : (s : RecordedState) (h : List Entry) → StandsFor s h → IsHistory s.unit.unit h
stands-history s h is = record { own = all-own s.unit.unit h is.unit.own; rising = is.rising }

-- ---- each of its entries might be asked

asked-folded : (config : Configuration) (n : ℕ) (xs : List Entry) (acc : List Deed) → AllAsked config n (fold (one_more config n) acc xs)
    → AllAsked config n acc × Each (λ (e : Entry). (within_limits config n e.act ≡ true) × (may_ask n e.actor e.act ≡ true)) xs
asked-folded config n [] acc all = (all, tt)
asked-folded config n (x ∷ xs) acc all = let rest = asked-folded config n xs (one_more config n acc x) all in (rest.0.1, ((rest.0.0.limits, rest.0.0.asked), rest.1))

pub stands-asked : (s : RecordedState) (h : List Entry) → StandsFor s h → s.unit.unit < length s.unit.config.units → Each (IsAsked s.unit.config) h
stands-asked s h is low =
    let config = s.unit.config in
    let n = s.unit.unit in
    let all = asked-folded config n h [] (subst (λ l. AllAsked config n (fold (one_more config n) [] l)) is.unit.own is.unit.asked) in
    let own = all-own n h is.unit.own in
    Each-by (IsAsked config) h (λ e i.
    let here : e.unit ≡ n = Each-in (λ (x : Entry). x.unit ≡ n) h e own i in
    let both = Each-in (λ (x : Entry). (within_limits config n x.act ≡ true) × (may_ask n x.actor x.act ≡ true)) h e all.1 i in
    record {
      configured = omega (arith, here, low);
      limits = ap (λ u. within_limits config u e.act) here ∙ both.0;
      asked = ap (λ u. may_ask u e.actor e.act) here ∙ both.1;
    })

-- ---- one more is counted, up to the end of the type

pub rose-counted : (before late after : ℕ) → before ≤ late → after ≡ min (late + 1) (2 ^ 64 - 1) → Rose before after
rose-counted before late after low is = go (nat_lt late (2 ^ 64 - 1)) refl
  where
    go : (t : Bool) → nat_lt late (2 ^ 64 - 1) ≡ t → Rose before after
    go true more = let some : late < 2 ^ 64 - 1 = grind (arith, nat_tests, more) in inl (omega (arith, low, is, some))
    go false end = let none : 2 ^ 64 - 1 ≤ late = grind (arith, nat_tests, end) in inr (omega (arith, is, none))
