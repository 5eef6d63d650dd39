-- What a turn on one unit does to a pass
use Rattle.std.proofs.Common.{◌<◌, ◌≤◌, ◌≡◌, ℕ, zero, suc, ◌+◌, List, [], ◌∷◌, ◌++◌, length, map, refl, ap, sym, ◌∙◌, subst, arith, Bool, true, Some}
use Rattle.std.specs.Prelude.{slice_set, slice_get, slice_index, slice_index_or, IfSome, Option}
use Rattle.std.proofs.lemmas.List.{length-map}
use mathlib.Core.List.{IsPrefix}
use Rattle.atomic_table.specs.Seated.{TableId}
use Rattle.cm_base.specs.Configuration.{Configuration}
use Rattle.cm_history.specs.declared.act.Act.{Act}
use Rattle.cm_history.specs.declared.act.Actor.{Actor}
use Rattle.cm_history.specs.declared.act.Entry.{Entry}
use Rattle.cm_history.specs.Legal.{may_ask}
use Rattle.cm_history.specs.Limits.{within_limits}
use Rattle.merged_history.specs.Merged.{merged}
use Rattle.merged_history.specs.Passes.{of_unit}
use Rattle.merged_history.proofs.PublicLaws.{map-at}
use Rattle.merged_history.specs.declared.known.Ticket.{Ticket}
use Rattle.merged_history.specs.Seats.{PassState}
use Rattle.turn_gate.specs.declared.view.Own.{Own}
use Rattle.unit_gate.specs.declared.kin.UnitKin.{UnitKin}
use Rattle.unit_gate.specs.SeatActs.{UnitSeat}
use Rattle.nexus.specs.Worlds.{UnitGate, WorldView, PassView, IsOf}
use Rattle.nexus.specs.inner.Gates.{IsGateOf, config_of}
use Rattle.nexus.specs.inner.Keeping.{gates_of, entries_of, owns, seens, pass_view, KeepsPass}
use Rattle.nexus.proofs.Places.{gate-at, map-index, map-get, map-set, map-kept, map-here}

-- the view of a pass, by its parts
abbrev pub view : Configuration → List UnitGate → TableId → Ticket → List Entry → List (List Entry) → List Bool → List ℕ → List (List ℕ) → PassView
view c g r t o s h m k = record { config = c; gates = g; register = r; ticket = t; own = o; seen = s; holds = h; misses = m; marks = k }

pub view-same : (c c' : Configuration) (g g' : List UnitGate) (r : TableId) (t : Ticket) (o o' : List Entry) (s s' : List (List Entry)) (h h' : List Bool) (m m' : List ℕ) (k k' : List (List ℕ))
    → c ≡ c' → g ≡ g' → o ≡ o' → s ≡ s' → h ≡ h' → m ≡ m' → k ≡ k' → view c g r t o s h m k ≡ view c' g' r t o' s' h' m' k'
view-same c c' g g' r t o o' s s' h h' m m' k k' ec eg eo es eh em ek =
    ap (λ x. view x g r t o s h m k) ec ∙ ap (λ x. view c' x r t o s h m k) eg ∙ ap (λ x. view c' g' r t x s h m k) eo ∙ ap (λ x. view c' g' r t o' x h m k) es
    ∙ ap (λ x. view c' g' r t o' s' x m k) eh ∙ ap (λ x. view c' g' r t o' s' h' x k) em ∙ ap (λ x. view c' g' r t o' s' h' m' x) ek

-- ---- the gate and the seat of a unit

pub record IsPlace (gate : UnitGate) (seats : List UnitSeat) (before : UnitSeat) (actor : Actor) (act : Act) (unit : ℕ) : Type 0 where
  pub low : unit < length seats
  pub gate_is : before.gate ≡ gate
  pub kin : UnitKin
  pub has : gate.kin ≡ Some kin
  pub kin_is : kin ≡ record kin { config = config_of (gates_of seats); unit = unit }
  pub limits : within_limits (config_of (gates_of seats)) unit act ≡ true
  pub asked : may_ask unit actor act ≡ true

pub kin-is : (kin : UnitKin) (config : Configuration) (unit : ℕ) → kin.config ≡ config → kin.unit ≡ unit → kin ≡ record kin { config = config; unit = unit }
kin-is kin config unit c u = ap (λ x. record kin { config = x }) c ∙ ap (λ x. record kin { config = config; unit = x }) u

pub place : (gates : List UnitGate) (register : TableId) (gate : UnitGate) (pass : PassState) (seats : List UnitSeat) (before : UnitSeat) (actor : Actor) (seq last : ℕ) (act : Act) (unit index : ℕ) (world : WorldView) (shown : PassView)
    → record { config = config_of gates; gates = gates; register = register } ≡ world → pass_view (config_of (gates_of seats)) pass seats ≡ shown
    → KeepsPass (config_of (gates_of seats)) pass.ticket seats actor seq last → IsOf world shown → unit < length world.config.units
    → within_limits world.config unit act ≡ true → may_ask unit shown.ticket.actor act ≡ true
    → index ≡ unit → gate ≡ slice_index_or gates index gate → before ≡ slice_index_or seats index before → IsPlace gate seats before pass.ticket.actor act index
place gates register gate pass seats before actor seq last act unit index world shown w p keeps of configured limits asked same at_gate at_seat =
    let gates_are : gates_of seats ≡ gates = ap (λ (v : PassView). v.gates) p ∙ of.gates ∙ sym (ap (λ (v : WorldView). v.gates) w) in
    let config_is : config_of (gates_of seats) ≡ world.config = ap config_of gates_are ∙ ap (λ (v : WorldView). v.config) w in
    let known = ap (λ (c : Configuration). length c.units) config_is in
    let units = keeps.units in
    let low : index < length seats = omega (arith, known, units, same, configured) in
    let here : before.gate ≡ gate = gate-at seats gates before gate index gates_are low at_seat at_gate in
    let is = keeps.gates_are index before.gate (map-get (λ (s : UnitSeat). s.gate) seats index before low at_seat) in
    record {
      low = low;
      gate_is = here;
      kin = is.kin;
      has = ap (λ (g : UnitGate). g.kin) (sym here) ∙ is.has;
      kin_is = kin-is is.kin (config_of (gates_of seats)) index is.config_is is.unit_is;
      limits = ap (λ c. within_limits c index act) config_is ∙ ap (λ i. within_limits world.config i act) same ∙ limits;
      asked = ap (λ (v : PassView). may_ask index v.ticket.actor act) p ∙ ap (λ i. may_ask i shown.ticket.actor act) same ∙ asked;
    }

pub if-some : (P : UnitKin → Type 0) (k : Option UnitKin) (kin : UnitKin) → k ≡ Some kin → IfSome k P → P kin
if-some P k kin is all = subst (λ o. IfSome o P) is all

pub some-if : (P : UnitKin → Type 0) (k : Option UnitKin) (kin : UnitKin) → k ≡ Some kin → P kin → IfSome k P
some-if P k kin is here = subst (λ o. IfSome o P) (sym is) here

-- ---- the seats, one of which was changed

module _ (seats : List UnitSeat) (unit : ℕ) (before after : UnitSeat) (low : unit < length seats) (at : before ≡ slice_index_or seats unit before) where
  abbrev pub set : List UnitSeat
  set = slice_set seats unit after

  pub own-at : of_unit (owns seats) unit ≡ entries_of before.own
  own-at = map-at (λ (s : UnitSeat). entries_of s.own) seats unit before low at

  pub seen-at : of_unit (seens seats) unit ≡ before.seen
  seen-at = map-at (λ (s : UnitSeat). s.seen) seats unit before low at

  pub gates-kept : after.gate ≡ before.gate → gates_of set ≡ gates_of seats
  gates-kept same = map-kept (λ (s : UnitSeat). s.gate) seats unit before after low at same

  pub holds-kept : after.holds ≡ before.holds → map (λ (s : UnitSeat). s.holds) set ≡ map (λ (s : UnitSeat). s.holds) seats
  holds-kept same = map-kept (λ (s : UnitSeat). s.holds) seats unit before after low at same

  pub owns-kept : after.own ≡ before.own → owns set ≡ owns seats
  owns-kept same = map-kept (λ (s : UnitSeat). entries_of s.own) seats unit before after low at (ap entries_of same)

  pub seens-set : seens set ≡ slice_set (seens seats) unit after.seen
  seens-set = map-set (λ (s : UnitSeat). s.seen) seats unit after

  -- what was counted at the unit's seat
  pub misses-set : map (λ (s : UnitSeat). s.misses) set ≡ slice_set (map (λ (s : UnitSeat). s.misses) seats) unit (slice_index (map (λ (s : UnitSeat). s.misses) set) unit)
  misses-set = map-set (λ (s : UnitSeat). s.misses) seats unit after
      ∙ ap (slice_set (map (λ (s : UnitSeat). s.misses) seats) unit) (sym (map-here (λ (s : UnitSeat). s.misses) seats unit after 0 low))

  pub marks-set : map (λ (s : UnitSeat). s.marks) set ≡ slice_set (map (λ (s : UnitSeat). s.marks) seats) unit (slice_index_or (map (λ (s : UnitSeat). s.marks) set) unit [])
  marks-set = map-set (λ (s : UnitSeat). s.marks) seats unit after
      ∙ ap (slice_set (map (λ (s : UnitSeat). s.marks) seats) unit) (sym (map-here (λ (s : UnitSeat). s.marks) seats unit after [] low))

  pub misses-here : slice_index (map (λ (s : UnitSeat). s.misses) set) unit ≡ after.misses
  misses-here = map-here (λ (s : UnitSeat). s.misses) seats unit after 0 low

  pub misses-before : slice_index (map (λ (s : UnitSeat). s.misses) seats) unit ≡ before.misses
  misses-before = map-index (λ (s : UnitSeat). s.misses) seats unit before 0 low at

  pub marks-here : slice_index_or (map (λ (s : UnitSeat). s.marks) set) unit [] ≡ after.marks
  marks-here = map-here (λ (s : UnitSeat). s.marks) seats unit after [] low

  pub marks-before : slice_index_or (map (λ (s : UnitSeat). s.marks) seats) unit [] ≡ before.marks
  marks-before = map-index (λ (s : UnitSeat). s.marks) seats unit before [] low at
