-- A pass keeps a unit's turn, and gives it back
use Rattle.std.proofs.Common.{Ok, Err, IfOk, OnOk, ◌<◌, ◌≤◌, ◌≡◌, ℕ, zero, suc, ◌+◌, List, [], ◌∷◌, length, map, refl, ap, sym, ◌∙◌, subst, arith, false, Some, length-append}
use Rattle.std.specs.declared.result.Result.{Result}
use Rattle.std.specs.List.{All}
use Rattle.std.specs.Prelude.{slice_set, slice_get, slice_index_or, Option}
use Rattle.std.proofs.lemmas.List.{length-set, length-map}
use mathlib.Core.List.{IsPrefix}
use Rattle.atomic_table.specs.Seated.{TableId}
use Rattle.cm_base.specs.Configuration.{Configuration}
use Rattle.cm_history.specs.declared.act.Actor.{Actor}
use Rattle.cm_history.specs.declared.act.Actor.TheVariants.{Nexus}
use Rattle.cm_history.specs.declared.act.Entry.{Entry}
use Rattle.merged_history.specs.Merged.{merged}
use Rattle.merged_history.specs.Passes.{of_unit}
use Rattle.merged_history.specs.PassRules.{IsHistory}
use Rattle.merged_history.proofs.PublicLaws.{pass-sees, longer-set, set-at}
use Rattle.merged_history.specs.Seats.{PassState, ticket_of}
use Rattle.unit_gate.specs.declared.kin.RecorderFacts.{RecorderFacts}
use Rattle.unit_gate.specs.declared.kin.UnitKin.{UnitKin}
use Rattle.unit_gate.specs.Recorded.{RecordedState, StandsFor, kin_of, marks_of}
use Rattle.unit_gate.specs.SeatActs.{UnitSeat, IsHeldBy, Missed, HasTaken as HasTakenTurn}
use Rattle.nexus.specs.Worlds.{PassView, UnitGate, WorldView, IsOf, IsFreePass, FoundTaken}
use Rattle.nexus.specs.Roots.{RootView, IsRootOf, WasMade, WasTaken}
use Rattle.nexus.specs.inner.Gates.{config_of}
use Rattle.nexus.specs.Holding.{HasTaken, HasWaited, IsHeldAt, HoldView}
use Rattle.nexus.specs.inner.Keeping.{gates_of, entries_of, owns, seens, pass_view, KeepsPass}
use Rattle.nexus.proofs.Acted.{kin_with}
use Rattle.nexus.proofs.Places.{gate-at, map-set, map-get, map-kept, map-index, map-here}
use Rattle.nexus.proofs.Turning.{kin-is, view-same, seen-at, gates-kept, holds-kept, owns-kept, seens-set, misses-set, misses-here, misses-before, marks-set, marks-here, marks-before}

module _ (pass : PassState) (seats : List UnitSeat) (actor : Actor) (seq last : ℕ) (keeps : KeepsPass (config_of (gates_of seats)) pass.ticket seats actor seq last)
    (unit : ℕ) (before after : UnitSeat) (low : unit < length seats) (at : before ≡ slice_index_or seats unit before) where
  abbrev config : Configuration
  config = config_of (gates_of seats)

  abbrev view_after : PassView
  view_after = pass_view (config_of (gates_of (slice_set seats unit after))) pass (slice_set seats unit after)

  -- ---- the turn was taken by this pass, which may have found it taken before

  module _ (given : UnitKin) (misses : ℕ) (took : HasTakenTurn (kin_with config unit given) (record before { misses = misses }) after) where
    longer : IsPrefix (of_unit (seens seats) unit) after.seen
    longer = subst (λ l. IsPrefix l after.seen) (sym (seen-at seats unit before after low at)) took.turn.longer

    gates-after : gates_of (slice_set seats unit after) ≡ gates_of seats
    gates-after = gates-kept seats unit before after low at (ap (λ (s : UnitSeat). s.gate) took.seat)

    owns-after : owns (slice_set seats unit after) ≡ owns seats
    owns-after = owns-kept seats unit before after low at (ap (λ (s : UnitSeat). s.own) took.seat)

    seens-after : seens (slice_set seats unit after) ≡ slice_set (seens seats) unit after.seen
    seens-after = seens-set seats unit before after low at

    seen-here : of_unit (seens (slice_set seats unit after)) unit ≡ after.seen
    seen-here = ap (λ l. of_unit l unit) seens-after ∙ set-at (seens seats) unit after.seen (let m = length-map seats (λ (s : UnitSeat). s.seen) in omega (arith, low, m))

    pub taken-keeps : KeepsPass (config_of (gates_of (slice_set seats unit after))) pass.ticket (slice_set seats unit after) actor seq last
    taken-keeps = subst (λ g. KeepsPass (config_of g) pass.ticket (slice_set seats unit after) actor seq last) (sym gates-after) record {
      is = rw (owns-after, seens-after) (pass-sees config pass.ticket (owns seats) (seens seats) (slice_set (seens seats) unit after.seen) keeps.is
          (longer-set (seens seats) unit after.seen longer) (length-set (seens seats) unit after.seen));
      gates_are = rw gates-after keeps.gates_are;
      units = length-set seats unit after ∙ keeps.units;
      actor_is = keeps.actor_is;
      pump = keeps.pump;
      seq_is = rw owns-after keeps.seq_is;
      last_is = rw owns-after keeps.last_is;
      rising = keeps.rising;
    }

    taken-by : (ms : List ℕ) → map (λ (s : UnitSeat). s.misses) (slice_set seats unit after) ≡ ms → HasTaken (record (pass_view config pass seats) { misses = ms }) view_after unit
    taken-by ms misses_are = record {
      turn = record { longer = subst (IsPrefix (of_unit (seens seats) unit)) (sym seen-here) longer; is_history = subst (IsHistory unit) (sym seen-here) took.turn.is_history };
      marks = rw (marks-here seats unit before after low at, marks-before seats unit before after low at) took.marks;
      pass = view-same _ _ _ _ _ _ _ _ _ _ _ _ _ _ _ _ (ap config_of gates-after) gates-after (ap merged owns-after) (seens-after ∙ ap (slice_set (seens seats) unit) (sym seen-here))
          (map-set (λ (s : UnitSeat). s.holds) seats unit after ∙ ap (slice_set (map (λ (s : UnitSeat). s.holds) seats) unit) (ap (λ (s : UnitSeat). s.holds) took.seat))
          misses_are (marks-set seats unit before after low at);
    }

    pub was-taken : misses ≡ before.misses → HasTaken (pass_view config pass seats) view_after unit
    was-taken same = taken-by (map (λ (s : UnitSeat). s.misses) seats) (map-kept (λ (s : UnitSeat). s.misses) seats unit before after low at (ap (λ (s : UnitSeat). s.misses) took.seat ∙ same))

    pub has-waited : before.misses ≤ misses → HasWaited (pass_view config pass seats) view_after unit
    has-waited up = record {
      misses =
          let m = misses-here seats unit before after low at in let b = misses-before seats unit before after low at in let n = ap (λ (s : UnitSeat). s.misses) took.seat in
          omega (arith, m, b, n, up);
      taken = taken-by _ (misses-set seats unit before after low at);
    }

    pub is-held : (u : RecordedState) → IsHeldBy before.gate.kin after u → IsHeldAt view_after (record { unit = unit; turn = u })
    is-held u held = record {
      holds = map-here (λ (s : UnitSeat). s.holds) seats unit after false low ∙ held.holds;
      stands = subst (StandsFor u) (sym seen-here) held.stands;
      gate = before.gate;
      at = ap (λ g. slice_get g unit) gates-after ∙ map-get (λ (s : UnitSeat). s.gate) seats unit before low at;
      kin_is = held.kin_is;
      marks = marks-here seats unit before after low at ∙ held.marks;
    }

  -- ---- it is given back

  module _ (gave : after ≡ record before { holds = false }) where
    gates-gave : gates_of (slice_set seats unit after) ≡ gates_of seats
    gates-gave = gates-kept seats unit before after low at (ap (λ (s : UnitSeat). s.gate) gave)

    owns-gave : owns (slice_set seats unit after) ≡ owns seats
    owns-gave = owns-kept seats unit before after low at (ap (λ (s : UnitSeat). s.own) gave)

    seens-gave : seens (slice_set seats unit after) ≡ seens seats
    seens-gave = map-kept (λ (s : UnitSeat). s.seen) seats unit before after low at (ap (λ (s : UnitSeat). s.seen) gave)

    pub gave-keeps : KeepsPass (config_of (gates_of (slice_set seats unit after))) pass.ticket (slice_set seats unit after) actor seq last
    gave-keeps = subst (λ g. KeepsPass (config_of g) pass.ticket (slice_set seats unit after) actor seq last) (sym gates-gave) record {
      is = rw (owns-gave, seens-gave) keeps.is;
      gates_are = rw gates-gave keeps.gates_are;
      units = length-set seats unit after ∙ keeps.units;
      actor_is = keeps.actor_is;
      pump = keeps.pump;
      seq_is = rw owns-gave keeps.seq_is;
      last_is = rw owns-gave keeps.last_is;
      rising = keeps.rising;
    }

    pub gave-back : view_after ≡ record (pass_view config pass seats) { holds = slice_set (map (λ (s : UnitSeat). s.holds) seats) unit false }
    gave-back = view-same _ _ _ _ _ _ _ _ _ _ _ _ _ _ _ _ (ap config_of gates-gave) gates-gave (ap merged owns-gave) seens-gave
        (map-set (λ (s : UnitSeat). s.holds) seats unit after ∙ ap (slice_set (map (λ (s : UnitSeat). s.holds) seats) unit) (ap (λ (s : UnitSeat). s.holds) gave))
        (map-kept (λ (s : UnitSeat). s.misses) seats unit before after low at (ap (λ (s : UnitSeat). s.misses) gave))
        (map-kept (λ (s : UnitSeat). s.marks) seats unit before after low at (ap (λ (s : UnitSeat). s.marks) gave))

  -- what the pass holds, its seat holds
  pub seat-holds : (u : RecordedState) → IsHeldAt (pass_view config pass seats) (record { unit = unit; turn = u }) → IsHeldBy before.gate.kin before u
  seat-holds u held = record {
    holds = sym (map-index (λ (s : UnitSeat). s.holds) seats unit before false low at) ∙ held.holds;
    stands = subst (StandsFor u) (seen-at seats unit before after low at) held.stands;
    kin_is = let same : Some before.gate ≡ Some held.gate = sym (map-get (λ (s : UnitSeat). s.gate) seats unit before low at) ∙ held.at in let one : before.gate ≡ held.gate = cc in ap (λ (g : UnitGate). g.kin) one ∙ held.kin_is;
    marks = sym (marks-before seats unit before after low at) ∙ held.marks;
  }

-- a unit that has a gate is one of them
pub gate-low : (gates : List UnitGate) (unit : ℕ) (gate : UnitGate) → slice_get gates unit ≡ Some gate → unit < length gates
gate-low [] unit gate at = cc
gate-low (g ∷ gs) zero gate at = omega arith
gate-low (g ∷ gs) (suc n) gate at = let low = gate-low gs n gate at in omega (arith, low)

-- ---- the gate and the seat of a unit

pub record IsSeatAt (gate : UnitGate) (seats : List UnitSeat) (before : UnitSeat) (unit : ℕ) : Type 0 where
  pub low : unit < length seats
  pub gate_is : before.gate ≡ gate
  pub kin : UnitKin
  pub has : gate.kin ≡ Some kin
  pub kin_is : kin ≡ kin_with (config_of (gates_of seats)) unit kin

pub seat-at : (gates : List UnitGate) (register : TableId) (gate : UnitGate) (pass : PassState) (seats : List UnitSeat) (before : UnitSeat) (actor : Actor) (seq last : ℕ) (unit index : ℕ) (world : WorldView) (shown : PassView)
    → record { config = config_of gates; gates = gates; register = register } ≡ world → pass_view (config_of (gates_of seats)) pass seats ≡ shown
    → KeepsPass (config_of (gates_of seats)) pass.ticket seats actor seq last → IsOf world shown → unit < length world.config.units
    → index ≡ unit → gate ≡ slice_index_or gates index gate → before ≡ slice_index_or seats index before → IsSeatAt gate seats before index
seat-at gates register gate pass seats before actor seq last unit index world shown w p keeps of configured same at_gate at_seat =
    let gates_are : gates_of seats ≡ gates = ap (λ (v : PassView). v.gates) p ∙ of.gates ∙ sym (ap (λ (v : WorldView). v.gates) w) in
    let config_is : config_of (gates_of seats) ≡ world.config = ap config_of gates_are ∙ ap (λ (v : WorldView). v.config) w in
    let known = ap (λ (c : Configuration). length c.units) config_is in
    let units = keeps.units in
    let low : index < length seats = omega (arith, known, units, same, configured) in
    let here : before.gate ≡ gate = gate-at seats gates before gate index gates_are low at_seat at_gate in
    let is = keeps.gates_are index before.gate (map-get (λ (s : UnitSeat). s.gate) seats index before low at_seat) in
    record {
      low = low;
      gate_is = here;
      kin = is.kin;
      has = ap (λ (g : UnitGate). g.kin) (sym here) ∙ is.has;
      kin_is = kin-is is.kin (config_of (gates_of seats)) index is.config_is is.unit_is;
    }

-- ---- a pass that was just made holds no unit

no-hold : (gates : List UnitGate) → All (λ h. h ≡ false) (map (λ (g : UnitGate). false) gates)
no-hold [] k d low = absurd (omega (arith, low))
no-hold (g ∷ gs) zero d low = refl
no-hold (g ∷ gs) (suc k) d low = no-hold gs k d (omega (arith, low))

pub made-free : (world : WorldView) (before after : RootView) (pass : PassView) (number : ℕ) → IsRootOf world before → WasMade before after pass (Nexus number) → IsFreePass world number pass
made-free world before after pass number root made = record {
  of_world = record {
    config = ap (λ (p : PassView). p.config) made.new ∙ root.config;
    gates = ap (λ (p : PassView). p.gates) made.new ∙ root.gates;
    register = ap (λ (p : PassView). p.register) made.new ∙ root.register;
  };
  free = subst (All (λ h. h ≡ false)) (sym (ap (λ (p : PassView). p.holds) made.new)) (no-hold before.gates);
  actor = ap (λ (p : PassView). p.ticket.actor) made.new;
}

pub made-more : (before after : RootView) (pass : PassView) (actor : Actor) → WasMade before after pass actor → length after.out ≡ length before.out + 1
made-more before after pass actor made = ap (λ (v : RootView). length v.out) made.root ∙ length-append before.out (ticket_of actor before.joined ∷ [])

pub taken-fewer : (before after : RootView) (pass : PassView) → WasTaken before after pass → length before.out ≡ length after.out + 1
taken-fewer before after pass taken =
    let was = ap length taken.was_out in
    let now = ap (λ (v : RootView). length v.out) taken.root in
    let one = length-append taken.front (pass.ticket ∷ taken.back) in
    let two = length-append taken.front taken.back in
    omega (arith, was, now, one, two)

-- ---- facts of a result

pub if-ok : {A E : Type 0} (r : Result A E) (P Q : A → Type 0) → IfOk r P → ((a : A) → P a → Q a) → IfOk r Q
if-ok (Ok a) P Q p all = all a p
if-ok (Err e) P Q p all = tt

pub on-ok : {A E : Type 0} (r : Result A E) (P : A → Type 0) (Q : Type 0) → IfOk r P → ((a : A) → P a → Q) → OnOk r Q
on-ok (Ok a) P Q p all = all a p
on-ok (Err e) P Q p all = tt
