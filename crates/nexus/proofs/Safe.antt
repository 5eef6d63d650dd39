-- A pass over eager recorders is safe, whatever it does
use Rattle.std.proofs.Common.{◌<◌, ◌≤◌, ◌≡◌, ℕ, zero, suc, ◌+◌, List, [], ◌∷◌, ◌++◌, length, map, refl, ap, sym, ◌∙◌, subst, arith, Bool, true, false, Some, inl, inr, append-nil, length-append}
use Rattle.std.specs.Prelude.{◌⊎◌, ◌==◌, slice_get, slice_set, slice_index_or}
use Rattle.std.proofs.lemmas.Bool.{cases_lt}
use mathlib.Core.List.{IsPrefix}
use Rattle.cm_base.specs.Configuration.{Configuration}
use Rattle.cm_history.specs.declared.act.Entry.{Entry}
use Rattle.cm_history.specs.declared.refused.ActRefused.{ActRefused}
use Rattle.cm_history.specs.History.{on}
use Rattle.cm_history.proofs.PublicLaws.{Each, Each-append, Each-by, In, In-filter, filter-passes}
use Rattle.std.proofs.lemmas.Bool.Decides.{nat_tests}
use Rattle.merged_history.specs.Merged.{merged}
use Rattle.merged_history.specs.Passes.{AreFrom, of_unit}
use Rattle.merged_history.proofs.PublicLaws.{unit-stands}
use Rattle.merged_history.specs.Seats.{PassState}
use Rattle.recorder.specs.Recording.{Rose}
use Rattle.turn_gate.specs.declared.view.Own.{Own}
use Rattle.turn_gate.specs.Marks.{AtMost}
use Rattle.unit_gate.specs.declared.asked.Acted.{Acted}
use Rattle.unit_gate.specs.declared.asked.AskedAct.{AskedAct}
use Rattle.unit_gate.specs.declared.kin.UnitKin.{UnitKin}
use Rattle.unit_gate.specs.declared.refused.TryRefused.{TryRefused}
use Rattle.unit_gate.specs.Asking.{entry_of as entry_at_gate}
use Rattle.unit_gate.specs.SeatActs.{UnitSeat, HasActed, HasSeen, HasTaken, HasWaited, IsRefused, IsTryRefused, Missed, faults_of, folded_of, late_of, WasSaved as WasSavedAt, IsSaved as IsSavedAt}
use Rattle.nexus.specs.Worlds.{UnitGate, HasSome}
use Rattle.nexus.specs.Safe.{IsRecorded, IsSafe, IsSafeOn}
use Rattle.nexus.specs.inner.Keeping.{AreSafe, IsAbove, IsSafeFrom, IsSafeSeat, StandWithin, entries_of, gates_of, owns, pass_view, seens}
use Rattle.nexus.proofs.Made.{get-left}
use Rattle.nexus.proofs.Taking.{each-got, map-got}

-- ---- counts

rose-up : (a b c : ℕ) → a ≤ b → b ≤ c → Rose a b → Rose a c
rose-up a b c low more (inl less) = inl (omega (arith, less, more))
rose-up a b c low more (inr end) = go (cases_lt b c)
  where
    go : (b < c) ⊎ (c ≤ b) → Rose a c
    go (inl less) = inl (omega (arith, low, less))
    go (inr le) = let same : c ≡ b = omega (arith, more, le) in inr (same ∙ end)

rose-down : (a b c : ℕ) → a ≤ b → Rose b c → Rose a c
rose-down a b c low (inl less) = inl (omega (arith, low, less))
rose-down a b c low (inr end) = inr end

rose-some : (b c : ℕ) → Rose b c → 0 < c
rose-some b c (inl less) = omega (arith, less)
rose-some b c (inr end) = omega (arith, end)

-- ---- own entries that stand among the first ones

within-more : (seen after : List Entry) (n m : ℕ) (own : List (Own Entry)) → IsPrefix seen after → n ≤ m → StandWithin seen n own → StandWithin after m own
within-more seen after n m [] longer more all = tt
within-more seen after n m (o ∷ os) longer more all =
    let low = all.0.1 in (
      (subst (λ l. slice_get l o.place ≡ Some o.entry) longer.1 (get-left seen longer.0 o.place o.entry all.0.0), omega (arith, low, more)),
      within-more seen after n m os longer more all.1,
    )

get-last : (xs : List Entry) (e : Entry) → slice_get (xs ++ e ∷ []) (length xs) ≡ Some e
get-last [] e = refl
get-last (x ∷ xs) e = get-last xs e

prefix-more : (xs ys : List Entry) (e : Entry) → IsPrefix xs ys → IsPrefix xs (ys ++ e ∷ [])
prefix-more xs ys e longer = (longer.0 ++ e ∷ [], assoc xs longer.0 ∙ ap (λ l. l ++ e ∷ []) longer.1)
  where
    assoc : (ls rs : List Entry) → ls ++ (rs ++ e ∷ []) ≡ (ls ++ rs) ++ e ∷ []
    assoc [] rs = refl
    assoc (l ∷ ls) rs = ap (λ m. l ∷ m) (assoc ls rs)

-- ---- a seat that saw more, and whose counts rose

above-up : (before after : UnitSeat) → after.gate ≡ before.gate → AtMost before.marks after.marks → IsAbove before → IsAbove after
above-up before after gate marks above = λ kin has.
    let low = above kin (ap (λ (g : UnitGate). g.kin) (sym gate) ∙ has) in let up = marks 0 in omega (arith, low, up)

pub above-more : (before after : UnitSeat) → after.gate ≡ before.gate → AtMost before.marks after.marks → IsAbove before → IsAbove after
above-more = above-up

more-safe : (faults : ℕ) (before after : UnitSeat) → after.own ≡ before.own → IsPrefix before.seen after.seen → AtMost before.marks after.marks → faults ≤ faults_of before
    → IsSafeFrom faults before → IsSafeFrom faults after
more-safe faults before after own longer marks low (inl all) =
    inl (subst (StandWithin after.seen (folded_of after)) (sym own) (within-more before.seen after.seen (folded_of before) (folded_of after) before.own longer (marks 1) all))
more-safe faults before after own longer marks low (inr (inl rose)) = inr (inl (rose-up faults (faults_of before) (faults_of after) low (marks 0) rose))
more-safe faults before after own longer marks low (inr (inr late)) = let up = marks 2 in inr (inr (omega (arith, late, up)))

pub grown-safe : (eager : Bool) (before after : UnitSeat) → after.gate ≡ before.gate → after.own ≡ before.own → IsPrefix before.seen after.seen → AtMost before.marks after.marks
    → IsSafeSeat eager before → IsSafeSeat eager after
grown-safe eager before after gate own longer marks is = record {
  above = above-up before after gate marks is.above;
  safe = λ on kin has some.
      let had = ap (λ (g : UnitGate). g.kin) (sym gate) ∙ has in
      more-safe kin.opening.faults before after own longer marks (is.above kin had) (is.safe on kin had some);
}

-- ---- an act was answered

module _ (kin : UnitKin) (before after : UnitSeat) (asked : AskedAct) (acted : Acted) (did : HasActed kin before after asked acted) where
  abbrev e : Entry
  e = entry_at_gate kin did.history asked

  seen-is : after.seen ≡ did.history ++ e ∷ []
  seen-is = ap (λ (s : UnitSeat). s.seen) did.seat

  own-is : after.own ≡ before.own ++ record { place = length did.history; entry = e } ∷ []
  own-is = ap (λ (s : UnitSeat). s.own) did.seat

  gate-is : after.gate ≡ before.gate
  gate-is = ap (λ (s : UnitSeat). s.gate) did.seat

  longer : IsPrefix before.seen after.seen
  longer = subst (IsPrefix before.seen) (sym seen-is) (prefix-more before.seen did.history e did.turn.longer)

  all-within : folded_of after ≡ length after.seen → StandWithin before.seen (folded_of before) before.own → StandWithin after.seen (folded_of after) after.own
  all-within folded all =
      let count = ap length seen-is ∙ length-append did.history (e ∷ []) in
      let last : slice_get after.seen (length did.history) ≡ Some e = ap (λ l. slice_get l (length did.history)) seen-is ∙ get-last did.history e in
      subst (StandWithin after.seen (folded_of after)) (sym own-is)
      (Each-append _ before.own (record { place = length did.history; entry = e } ∷ [])
      (within-more before.seen after.seen (folded_of before) (folded_of after) before.own longer (did.marks 1) all)
      ((last, omega (arith, folded, count)), tt))

  safe-now : (faults : ℕ) → faults ≤ faults_of before → WasSavedAt before after → IsSafeFrom faults before → IsSafeFrom faults after
  safe-now faults low (inl folded) (inl all) = inl (all-within folded all)
  safe-now faults low (inl folded) (inr (inl rose)) = inr (inl (rose-up faults (faults_of before) (faults_of after) low (did.marks 0) rose))
  safe-now faults low (inl folded) (inr (inr late)) = let up = did.marks 2 in inr (inr (omega (arith, late, up)))
  safe-now faults low (inr (inl rose)) was = inr (inl (rose-down faults (faults_of before) (faults_of after) low rose))
  safe-now faults low (inr (inr late)) was = inr (inr (rose-some (late_of before) (late_of after) late))

  pub acted-safe : (eager : Bool) → before.gate.kin ≡ Some kin → IsSavedAt eager kin before after → IsSafeSeat eager before → IsSafeSeat eager after
  acted-safe eager known saved is = record {
    above = above-up before after gate-is did.marks is.above;
    safe = λ on other has some.
        let had = ap (λ (g : UnitGate). g.kin) (sym gate-is) ∙ has in
        let both : Some kin ≡ Some other = sym known ∙ had in
        let same : kin ≡ other = cc in
        safe-now other.opening.faults (is.above other had) (saved on (ap (λ (k : UnitKin). k.opening.absent) same ∙ some)) (is.safe on other had some);
  }

-- ---- an act was refused

seen-safe : (eager : Bool) (kin : UnitKin) (before after : UnitSeat) → HasSeen kin before after → IsSafeSeat eager before → IsSafeSeat eager after
seen-safe eager kin before after saw is =
    grown-safe eager before after (ap (λ (s : UnitSeat). s.gate) saw.looked.seat) (ap (λ (s : UnitSeat). s.own) saw.looked.seat) saw.turn.longer saw.looked.marks is

pub refused-safe : (eager : Bool) (kin : UnitKin) (before after : UnitSeat) (asked : AskedAct) (e : ActRefused) → IsRefused kin before after asked e → IsSafeSeat eager before → IsSafeSeat eager after
refused-safe eager kin before after asked ActRefused.Full was is = seen-safe eager kin before after was.0 is
refused-safe eager kin before after asked ActRefused.OutOfMemory was is = seen-safe eager kin before after was is

pub missed-safe : (eager : Bool) (before after : UnitSeat) → Missed before after → IsSafeSeat eager before → IsSafeSeat eager after
missed-safe eager before after missed is = subst (IsSafeSeat eager) (sym missed) record { above = is.above; safe = is.safe }

pub not-taken-safe : (eager : Bool) (kin : UnitKin) (before after : UnitSeat) (asked : AskedAct) (e : TryRefused) → IsTryRefused kin before after asked e → IsSafeSeat eager before → IsSafeSeat eager after
not-taken-safe eager kin before after asked (TryRefused.Held handed) was is = missed-safe eager before after was.1 is
not-taken-safe eager kin before after asked (TryRefused.Act e) was is = refused-safe eager kin before after asked e was.0 is

-- ---- a turn is kept, and given back

pub taken-safe : (eager : Bool) (kin : UnitKin) (before after : UnitSeat) → HasTaken kin before after → IsSafeSeat eager before → IsSafeSeat eager after
taken-safe eager kin before after took is =
    grown-safe eager before after (ap (λ (s : UnitSeat). s.gate) took.seat) (ap (λ (s : UnitSeat). s.own) took.seat) took.turn.longer took.marks is

pub waited-safe : (eager : Bool) (kin : UnitKin) (before after : UnitSeat) → HasWaited kin before after → IsSafeSeat eager before → IsSafeSeat eager after
waited-safe eager kin before after waited is =
    grown-safe eager before after (ap (λ (s : UnitSeat). s.gate) waited.taken.seat) (ap (λ (s : UnitSeat). s.own) waited.taken.seat) waited.taken.turn.longer waited.taken.marks is

pub gave-safe : (eager : Bool) (before after : UnitSeat) → after ≡ record before { holds = false } → IsSafeSeat eager before → IsSafeSeat eager after
gave-safe eager before after gave is = subst (IsSafeSeat eager) (sym gave) record { above = is.above; safe = is.safe }

-- ---- one of the seats was changed

each-set : (P : UnitSeat → Type 0) (xs : List UnitSeat) (k : ℕ) (y : UnitSeat) → P y → Each P xs → Each P (slice_set xs k y)
each-set P [] k y new all = tt
each-set P (x ∷ xs) zero y new all = (new, all.1)
each-set P (x ∷ xs) (suc k) y new all = (all.0, each-set P xs k y new all.1)

each-index : (P : UnitSeat → Type 0) (xs : List UnitSeat) (k : ℕ) (x : UnitSeat) → k < length xs → x ≡ slice_index_or xs k x → Each P xs → P x
each-index P [] k x low is all = absurd (omega arith)
each-index P (y ∷ ys) zero x low is all = subst P (sym is) all.0
each-index P (y ∷ ys) (suc k) x low is all = each-index P ys k x (omega arith) is all.1

-- all are safe where the changed one is, which was safe
pub set-safe : (eager : Bool) (seats : List UnitSeat) (unit : ℕ) (before after : UnitSeat) → unit < length seats → before ≡ slice_index_or seats unit before
    → (IsSafeSeat eager before → IsSafeSeat eager after) → AreSafe eager seats → AreSafe eager (slice_set seats unit after)
set-safe eager seats unit before after low at keep all = each-set (IsSafeSeat eager) seats unit after (keep (each-index (IsSafeSeat eager) seats unit before low at all)) all

-- ---- what contracts see of it

record IsSeatGot (seats : List UnitSeat) (unit : ℕ) (gate : UnitGate) : Type 0 where
  seat : UnitSeat
  at : slice_get seats unit ≡ Some seat
  gate_is : seat.gate ≡ gate

seat-got : (seats : List UnitSeat) (unit : ℕ) (gate : UnitGate) → slice_get (gates_of seats) unit ≡ Some gate → IsSeatGot seats unit gate
seat-got [] unit gate at = cc
seat-got (s ∷ ss) zero gate at = record { seat = s; at = refl; gate_is = cc }
seat-got (s ∷ ss) (suc unit) gate at = let rest = seat-got ss unit gate at in record { seat = rest.seat; at = rest.at; gate_is = rest.gate_is }

record StandsWithin (seen : List Entry) (n : ℕ) (e : Entry) : Type 0 where
  place : ℕ
  stands : slice_get seen place ≡ Some e
  low : place < n

within-in : (seen : List Entry) (n : ℕ) (own : List (Own Entry)) (e : Entry) → StandWithin seen n own → In e (entries_of own) → StandsWithin seen n e
within-in seen n [] e all i = absurd i
within-in seen n (o ∷ os) e all (inl same) = record { place = o.place; stands = all.0.0 ∙ ap Some same; low = all.0.1 }
within-in seen n (o ∷ os) e all (inr i) = within-in seen n os e all.1 i

module _ (config : Configuration) (pass : PassState) (seats : List UnitSeat) (parts : AreFrom 0 (owns seats)) where
  module _ (unit : ℕ) (s : UnitSeat) (at : slice_get seats unit ≡ Some s) where
    marks-are : slice_index_or (map (λ (x : UnitSeat). x.marks) seats) unit [] ≡ s.marks
    marks-are = map-got (λ (x : UnitSeat). x.marks) seats unit s [] at

    recorded : StandWithin s.seen (folded_of s) s.own → (e : Entry) → In e (on unit (merged (owns seats))) → IsRecorded (pass_view config pass seats) unit e
    recorded all e i =
        let test = filter-passes (λ (o : Entry). o.unit == unit) (merged (owns seats)) e i in
        let same : e.unit ≡ unit = grind (arith, nat_tests) in
        let there = unit-stands (owns seats) e parts (In-filter (λ (o : Entry). o.unit == unit) (merged (owns seats)) e i) in
        let mine : In e (entries_of s.own) = subst (In e) (map-got (λ (x : UnitSeat). entries_of x.own) seats unit s [] at) (subst (λ u. In e (of_unit (owns seats) u)) same there) in
        let within = within-in s.seen (folded_of s) s.own e all mine in
        record {
          place = within.place;
          stands = ap (λ l. slice_get l within.place) (map-got (λ (x : UnitSeat). x.seen) seats unit s [] at) ∙ within.stands;
          recorded = subst (λ n. within.place < n) (sym (ap (λ l. slice_index_or l 1 0) marks-are)) within.low;
        }

    safe-on : (faults : ℕ) → IsSafeFrom faults s → IsSafeOn (pass_view config pass seats) unit faults
    safe-on faults (inl all) = inl (Each-by (IsRecorded (pass_view config pass seats) unit) (on unit (merged (owns seats))) (recorded all))
    safe-on faults (inr (inl rose)) = inr (inl (subst (Rose faults) (sym (ap (λ l. slice_index_or l 0 0) marks-are)) rose))
    safe-on faults (inr (inr late)) = inr (inr (subst (λ n. 0 < n) (sym (ap (λ l. slice_index_or l 2 0) marks-are)) late))

  pub pass-safe : (eager : Bool) → AreSafe eager seats → eager ≡ true → IsSafe (pass_view config pass seats)
  pass-safe eager all on = λ unit some.
      let got = seat-got seats unit some.gate some.at in
      let is = each-got (IsSafeSeat eager) seats unit got.seat got.at all in
      safe-on unit got.seat got.at some.kin.opening.faults (is.safe on some.kin (ap (λ (g : UnitGate). g.kin) got.gate_is ∙ some.has) some.present)
