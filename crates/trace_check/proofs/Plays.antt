-- How a checked trace is played on, item after item
use Rattle.std.proofs.Common.{◌≡◌, ℕ, zero, suc, ◌+◌, ◌*◌, ◌<◌, ◌≤◌, List, [], ◌∷◌, length, take, drop, refl, ap, sym, ◌∙◌, subst, arith, true, false, Bool}
use Rattle.std.specs.Prelude.{⊤, not, nat_lt, bytes_eq, Option, Some, None, if◌then◌else◌}
use Rattle.std.proofs.lemmas.Bool.Decides.{nat_tests}
use Rattle.cm_base.specs.Fields.{is_between}
use Rattle.cm_base.specs.Configuration.{Configuration}
use Rattle.cm_base.specs.declared.parsed.Parsed.TheVariants.{Whole, Short, Bad}
use Rattle.cm_frame.specs.declared.item.TraceItem.{TraceItem}
use Rattle.cm_frame.specs.Laws.{IsJudged}
use Rattle.cm_frame.specs.Grammar.{header_text}
use Rattle.cm_frame.specs.Reading.{read_item, read_header, first_broken, unit_checks, or_later, units_fault, units_told, judged_units}
use Rattle.cmd_program.specs.Judging.{step}
use Rattle.trace_replay.specs.Items.{Done, Torn, BadRecord, Records, Trace, with_item, led_by, trace_of}
use Rattle.trace_replay.specs.declared.fault.ReplayFault.{ReplayFault}
use Rattle.trace_replay.specs.ReplayState.{ReplayState, Nowhere, at_first, after_item, item_fits}
use Rattle.trace_replay.specs.Played.{Played, play, played_from, output_of, shortage_for, shortages_behind}
use Rattle.trace_check.specs.declared.machine.Machine.{Machine}
use Rattle.trace_check.specs.CheckedTrace.{checked_trace, checked_after, checked_items}
use Rattle.trace_check.specs.Verdict.{by_ending}
use Rattle.trace_check.specs.inner.Endings.{EndsBy}
use Rattle.trace_check.specs.inner.Machines.{IsStanding, Stands}
use Rattle.trace_check.specs.inner.Loops.{IsAt}

-- no shortage stands anywhere
none-at : (item : TraceItem) → shortage_for item [] ≡ Nowhere
none-at (TraceItem.Begin initiator moment request) = refl
none-at (TraceItem.Run initiator moment) = refl
none-at (TraceItem.Pump unit moment) = refl

none-behind : (item : TraceItem) → shortages_behind item [] ≡ []
none-behind (TraceItem.Begin initiator moment request) = refl
none-behind (TraceItem.Run initiator moment) = refl
none-behind (TraceItem.Pump unit moment) = refl

-- the trace begins with the item at its front
trace-step : (n place : ℕ) (bytes : List ℕ) (item : TraceItem) (used : ℕ) → read_item bytes ≡ Whole item used
    → trace_of (suc n) place bytes ≡ with_item place item (trace_of n (place + used) (drop used bytes))
trace-step n place [] item used e = absurd (subst IsJudged (sym e) tt)
trace-step n place (b ∷ bs) item used e = ap (λ p. led_by place p (λ u. trace_of n (place + u) (drop u (b ∷ bs)))) e

pub play-on : (config : Configuration) (s : ReplayState) (n place : ℕ) (bytes : List ℕ) (item : TraceItem) (used : ℕ)
    → read_item bytes ≡ Whole item used → item_fits config s item ≡ true
    → played_from step config s (suc n) place bytes [] ≡ played_from step config (after_item step config s item Nowhere) n (place + used) (drop used bytes) []
play-on config s n place bytes item used e fit =
    ap (λ (t : Trace). play step config s t.items t.ending []) (trace-step n place bytes item used e) ∙ rw fit refl
    ∙ ap (λ m. played_from step config (after_item step config s item m) n (place + used) (drop used bytes) (shortages_behind item [])) (none-at item)
    ∙ ap (played_from step config (after_item step config s item Nowhere) n (place + used) (drop used bytes)) (none-behind item)

-- ---- where it ends

pub play-unfit : (config : Configuration) (s : ReplayState) (n place : ℕ) (bytes : List ℕ) (item : TraceItem) (used : ℕ)
    → read_item bytes ≡ Whole item used → item_fits config s item ≡ false
    → played_from step config s (suc n) place bytes [] ≡ record { state = s; ending = BadRecord place }
play-unfit config s n place bytes item used e unfit =
    ap (λ (t : Trace). play step config s t.items t.ending []) (trace-step n place bytes item used e) ∙ rw unfit refl

pub play-bad : (config : Configuration) (s : ReplayState) (n place fault : ℕ) (bytes : List ℕ)
    → read_item bytes ≡ Bad fault → played_from step config s (suc n) place bytes [] ≡ record { state = s; ending = BadRecord place }
play-bad config s n place fault [] e = absurd (subst IsJudged (sym e) tt)
play-bad config s n place fault (b ∷ bs) e =
    ap (λ (t : Trace). play step config s t.items t.ending []) (ap (λ p. led_by place p (λ u. trace_of n (place + u) (drop u (b ∷ bs)))) e)

pub play-torn : (config : Configuration) (s : ReplayState) (n place b : ℕ) (bs : List ℕ)
    → read_item (b ∷ bs) ≡ Short → played_from step config s (suc n) place (b ∷ bs) [] ≡ record { state = s; ending = Torn place }
play-torn config s n place b bs e =
    ap (λ (t : Trace). play step config s t.items t.ending []) (ap (λ p. led_by place p (λ u. trace_of n (place + u) (drop u (b ∷ bs)))) e)

pub play-done : (config : Configuration) (s : ReplayState) (n place : ℕ) → played_from step config s n place [] [] ≡ record { state = s; ending = Done }
play-done config s zero place = refl
play-done config s (suc n) place = refl

pub play-records : (config : Configuration) (s : ReplayState) (place b : ℕ) (bs : List ℕ)
    → played_from step config s 0 place (b ∷ bs) [] ≡ record { state = s; ending = Records }
play-records config s place b bs = refl

-- ---- by what is kept

module _ (whole : Played) (n place : ℕ) (bytes : List ℕ) (m : Machine) where
  -- an item was played
  pub at-next : (at : IsAt whole (suc n) place bytes m) (item : TraceItem) (used : ℕ) (m' : Machine) → read_item bytes ≡ Whole item used
      → item_fits at.config at.s item ≡ true → IsStanding at.config (after_item step at.config at.s item Nowhere) m' → IsAt whole n (place + used) (drop used bytes) m'
  at-next at item used m' e fit is = record {
    config = at.config;
    s = after_item step at.config at.s item Nowhere;
    is = is;
    plays = sym (play-on at.config at.s n place bytes item used e fit) ∙ at.plays;
  }

  pub at-unfit : (at : IsAt whole (suc n) place bytes m) (item : TraceItem) (used : ℕ) → read_item bytes ≡ Whole item used
      → item_fits at.config at.s item ≡ false → EndsBy whole (ReplayFault.BadRecord (8 + place))
  at-unfit at item used e unfit = λ end. ap (λ (p : Played). by_ending p.ending end) (sym at.plays ∙ play-unfit at.config at.s n place bytes item used e unfit)

  pub at-bad : (fault : ℕ) → IsAt whole (suc n) place bytes m → read_item bytes ≡ Bad fault → EndsBy whole (ReplayFault.BadRecord (8 + place))
  at-bad fault at e = λ end. ap (λ (p : Played). by_ending p.ending end) (sym at.plays ∙ play-bad at.config at.s n place fault bytes e)

  pub at-torn : IsAt whole (suc n) place bytes m → 0 < length bytes → read_item bytes ≡ Short → EndsBy whole (ReplayFault.Torn (8 + place))
  at-torn at some e = go bytes refl
    where
      go : (bs : List ℕ) → bytes ≡ bs → EndsBy whole (ReplayFault.Torn (8 + place))
      go [] none = absurd (omega (arith, some, ap length none))
      go (b ∷ bs) is = λ end. ap (λ (p : Played). by_ending p.ending end)
          (sym at.plays ∙ ap (λ l. played_from step at.config at.s (suc n) place l []) is ∙ play-torn at.config at.s n place b bs (sym (ap read_item is) ∙ e))

  -- between two items
  pub at-done : (at : IsAt whole n place bytes m) → bytes ≡ [] → (whole.ending ≡ Done) × (m.replies.items ≡ output_of whole.state)
  at-done at none =
      let is = sym at.plays ∙ ap (λ l. played_from step at.config at.s n place l []) none ∙ play-done at.config at.s n place in
      (ap (λ (p : Played). p.ending) is, at.is.done.replies ∙ ap (λ (p : Played). output_of p.state) (sym is))

  pub at-records : IsAt whole n place bytes m → n ≡ 0 → 0 < length bytes → EndsBy whole ReplayFault.Records
  at-records at last some = go bytes refl
    where
      go : (bs : List ℕ) → bytes ≡ bs → EndsBy whole ReplayFault.Records
      go [] none = absurd (omega (arith, some, ap length none))
      go (b ∷ bs) is = λ end. ap (λ (p : Played). by_ending p.ending end)
          (sym at.plays ∙ ap (λ l. played_from step at.config at.s n place l []) is ∙ ap (λ k. played_from step at.config at.s k place (b ∷ bs) []) last)

  pub at-stands : IsAt whole n place bytes m → Stands m
  at-stands at = record { s = at.s; is = subst (λ k. IsStanding k at.s m) (sym at.is.done.told) at.is }

-- how a trace begins, when its header was read
pub at-first-item : (bytes : List ℕ) (config : Configuration) (used : ℕ) (m : Machine) → read_header bytes ≡ Whole config used → IsStanding config at_first m
    → IsAt (checked_trace step bytes) checked_items used (drop used bytes) m
at-first-item bytes config used m e is = record {
  config = config;
  s = at_first;
  is = is;
  plays = ap (λ p. checked_after step p bytes) (sym e);
}

-- ---- headers that are no header

pub header-torn : (bytes : List ℕ) → read_header bytes ≡ Short → EndsBy (checked_trace step bytes) (ReplayFault.Torn 8)
header-torn bytes e = λ end. ap (λ p. by_ending (checked_after step p bytes).ending end) e

pub header-bad : (bytes : List ℕ) (place : ℕ) → read_header bytes ≡ Bad place → EndsBy (checked_trace step bytes) (ReplayFault.BadHeader (8 + place))
header-bad bytes place e = λ end. ap (λ p. by_ending (checked_after step p bytes).ending end) e

-- the fields of a unit stand within its 32 bytes
abbrev AllLow : ℕ → List (ℕ × Bool) → Type 0
AllLow most [] = ⊤
AllLow most (check ∷ checks) = (check.0 ≤ most) × AllLow most checks

first-low : (most : ℕ) (checks : List (ℕ × Bool)) (fault : ℕ) → AllLow most checks → first_broken checks ≡ Some fault → fault ≤ most
first-low most [] fault all e = cc
first-low most (check ∷ checks) fault all e = go check.1 e (first-low most checks fault all.1)
  where
    go : (t : Bool) → (if t then first_broken checks else Some check.0) ≡ Some fault → (first_broken checks ≡ Some fault → fault ≤ most) → fault ≤ most
    go true k later = later k
    go false k later = let same : check.0 ≡ fault = cc in omega (arith, same, all.0)

units-low : (n place : ℕ) (bytes : List ℕ) (fault : ℕ) → units_fault n place bytes ≡ Some fault → fault ≤ place + 32 * n
units-low zero place bytes fault e = cc
units-low (suc n) place bytes fault e =
    go (first_broken (unit_checks bytes)) (units_fault n (place + 32) (drop 32 bytes)) refl e (units-low n (place + 32) (drop 32 bytes) fault)
  where
    unit : (f : ℕ) → first_broken (unit_checks bytes) ≡ Some f → f ≤ 29
    unit f k = first-low 29 (unit_checks bytes) f (omega arith, (omega arith, (omega arith, (omega arith, (omega arith, (omega arith, (omega arith, tt))))))) k

    go : (first later : Option ℕ) → first_broken (unit_checks bytes) ≡ first → or_later place first later ≡ Some fault
        → (later ≡ Some fault → fault ≤ (place + 32) + 32 * n) → fault ≤ place + 32 * suc n
    go None later f k rest = let h = rest k in omega (arith, h)
    go (Some at) later f k rest = let here : place + at ≡ fault = cc in let low = unit at f in omega (arith, here, low)

pub header-place : (bytes : List ℕ) (place : ℕ) → read_header bytes ≡ Bad place → place ≤ 554
header-place bytes place e =
    go (nat_lt (length bytes) 42) (bytes_eq (take 8 bytes) header_text) (is_between 1 16 (units_told bytes)) (nat_lt (length bytes) (42 + 32 * units_told bytes)) refl e
  where
    units : (found : Option ℕ) → units_fault (units_told bytes) 42 (drop 42 bytes) ≡ found → units_told bytes ≤ 16 → judged_units bytes found ≡ Bad place → place ≤ 554
    units None f few k = cc
    units (Some at) f few k =
        let same : at ≡ place = cc in
        let low = units-low (units_told bytes) 42 (drop 42 bytes) at f in
        omega (arith, same, low, few)

    go : (a b c d : Bool) → is_between 1 16 (units_told bytes) ≡ c
        → (if a then Short else if not b then Bad 0 else if not c then Bad 40 else if d then Short else judged_units bytes (units_fault (units_told bytes) 42 (drop 42 bytes))) ≡ Bad place → place ≤ 554
    go true b c d f k = cc
    go false false c d f k = let same : place ≡ 0 = cc in omega (arith, same)
    go false true false d f k = let same : place ≡ 40 = cc in omega (arith, same)
    go false true true true f k = cc
    go false true true false f k = units (units_fault (units_told bytes) 42 (drop 42 bytes)) refl (grind (arith, nat_tests)) k
