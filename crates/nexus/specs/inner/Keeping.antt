-- What a world, a pass and the root keep from call to call
use Rattle.std.specs.Prelude.{◌≡◌, ◌⊎◌, ℕ, ◌+◌, ◌<◌, ◌≤◌, ⊤, List, [], ◌∷◌, ◌++◌, length, map, take, slice_get, slice_set, slice_index, Some, Bool, true, false}
use Rattle.atomic_table.specs.Seated.{TableId}
use Rattle.cm_base.specs.Configuration.{Configuration}
use Rattle.cm_history.specs.declared.act.Actor.{Actor}
use Rattle.cm_history.specs.declared.act.Actor.TheVariants.{Nexus, Pump}
use Rattle.cm_history.specs.declared.act.Entry.{Entry}
use Rattle.cm_history.specs.Members.{Each}
use Rattle.merged_history.specs.Merged.{merged}
use Rattle.merged_history.specs.Own.{Rises, IsAsked}
use Rattle.merged_history.specs.PassRules.{IsPass, IsRoot}
use Rattle.merged_history.specs.declared.known.Ticket.{Ticket}
use Rattle.merged_history.specs.Seats.{Joined, RootState, PassState, own_of}
use Rattle.recorder.specs.Recording.{Rose}
use Rattle.turn_gate.specs.declared.view.Own.{Own}
use Rattle.turn_gate.specs.declared.view.Joined.{Joined as JoinedSeat}
use Rattle.turn_gate.specs.Seats.{SeatState}
use Rattle.unit_gate.specs.declared.kin.UnitKin.{UnitKin}
use Rattle.unit_gate.specs.SeatActs.{UnitSeat, faults_of, folded_of, late_of}
use Rattle.nexus.specs.Worlds.{UnitGate, PassView, last_stamp_of}
use Rattle.nexus.specs.inner.Gates.{IsGateOf, config_of}
use Rattle.nexus.specs.Roots.{RootView}
use Rattle.nexus.specs.inner.Seats.{AllFree, AreFirst}

-- the gates are those of the units of the configuration, in order
abbrev pub AreGates : Configuration → List UnitGate → Type 0
AreGates config gates = (unit : ℕ) (g : UnitGate) → slice_get gates unit ≡ Some g → IsGateOf config unit g

pub record KeepsWorld (gates : List UnitGate) : Type 0 where
  pub units : length gates ≡ length (config_of gates).units
  pub gates_are : AreGates (config_of gates) gates

-- ---- what the seats show

abbrev pub gates_of : List UnitSeat → List UnitGate
gates_of seats = map (λ (s : UnitSeat). s.gate) seats

abbrev pub entries_of : List (Own Entry) → List Entry
entries_of own = map (λ (o : Own Entry). o.entry) own

abbrev pub owns : {K : Type 0} → List (SeatState Entry K) → List (List Entry)
owns {K} seats = map (λ (s : SeatState Entry K). entries_of s.own) seats

abbrev pub seens : List UnitSeat → List (List Entry)
seens seats = map (λ (s : UnitSeat). s.seen) seats

abbrev pub openings : List UnitSeat → List ℕ
openings seats = map (λ (s : UnitSeat). s.opening) seats

-- what was made by the seats that were joined in
abbrev pub entries_joined : List (JoinedSeat Entry) → List Entry
entries_joined [] = []
entries_joined (j ∷ js) = entries_of j.own ++ entries_joined js

abbrev pub kepts : List UnitSeat → List (List Entry)
kepts seats = map (λ (s : UnitSeat). entries_joined s.joined) seats

abbrev pub pass_view : Configuration → PassState → List UnitSeat → PassView
pass_view config pass seats = record {
  config = config;
  gates = gates_of seats;
  register = pass.register;
  ticket = pass.ticket;
  own = merged (owns seats);
  seen = seens seats;
  holds = map (λ (s : UnitSeat). s.holds) seats;
  misses = map (λ (s : UnitSeat). s.misses) seats;
  marks = map (λ (s : UnitSeat). s.marks) seats;
}

abbrev pub root_view : Configuration → ℕ → RootState → List UnitSeat → RootView
root_view config made root seats = record {
  config = config;
  gates = gates_of seats;
  register = root.register;
  made = made;
  out = root.out;
  joined = root.joined;
  openings = openings seats;
  seen = seens seats;
  marks = map (λ (s : UnitSeat). s.marks) seats;
}

-- ---- what a pass keeps beside its seats

-- the unit of a pump is one of so many
abbrev pub IsPumpIn : ℕ → Actor → Type 0
IsPumpIn units (Nexus n) = ⊤
IsPumpIn units (Pump unit) = unit < units

abbrev pub IsPumpOf : Configuration → Actor → Type 0
IsPumpOf config actor = IsPumpIn (length config.units) actor

pub record KeepsPass (config : Configuration) (ticket : Ticket) (seats : List UnitSeat) (actor : Actor) (seq last : ℕ) : Type 0 where
  pub is : IsPass config ticket (owns seats) (seens seats)
  pub gates_are : AreGates config (gates_of seats)
  pub units : length seats ≡ length config.units
  pub actor_is : actor ≡ ticket.actor
  pub pump : IsPumpOf config ticket.actor
  pub seq_is : seq ≡ length ticket.before + length (merged (owns seats))
  pub last_is : last ≡ last_stamp_of (merged (owns seats))
  pub rising : Rises 0 ticket.before

-- ---- what is recorded of a pass's entries

-- the own entries stand among the first n
abbrev pub StandWithin : List Entry → ℕ → List (Own Entry) → Type 0
StandWithin seen n own = Each (λ (o : Own Entry). (slice_get seen o.place ≡ Some o.entry) × (o.place < n)) own

-- no fewer records had failed than at the opening
abbrev pub IsAbove : UnitSeat → Type 0
IsAbove s = (kin : UnitKin) → s.gate.kin ≡ Some kin → kin.opening.faults ≤ faults_of s

-- the own entries are recorded and dropped, or a record has failed since the opening, or memory for one was wanted
abbrev pub IsSafeFrom : ℕ → UnitSeat → Type 0
IsSafeFrom faults s = StandWithin s.seen (folded_of s) s.own ⊎ Rose faults (faults_of s) ⊎ (0 < late_of s)

-- it is so where entries are recorded as soon as they are made, and there is a recorder
pub record IsSafeSeat (eager : Bool) (s : UnitSeat) : Type 0 where
  pub above : IsAbove s
  pub safe : eager ≡ true → (kin : UnitKin) → s.gate.kin ≡ Some kin → kin.opening.absent ≡ false → IsSafeFrom kin.opening.faults s

abbrev pub AreSafe : Bool → List UnitSeat → Type 0
AreSafe eager seats = Each (IsSafeSeat eager) seats

abbrev pub AreAbove : List UnitSeat → Type 0
AreAbove seats = Each IsAbove seats

-- ---- what the root keeps

-- `seqs` has for each unit how many entries its joined pump passes have made
pub record AreSeqs (seqs : List ℕ) (units : ℕ) (joined : List Joined) : Type 0 where
  pub long : length seqs ≡ units
  pub are : (unit : ℕ) → unit < units → slice_index seqs unit ≡ length (own_of (Pump unit) joined)

-- after a pass of the actor was joined that goes on at `seq`
abbrev pub seqs_after : Actor → ℕ → List ℕ → List ℕ
seqs_after (Nexus n) seq seqs = seqs
seqs_after (Pump unit) seq seqs = slice_set seqs unit seq

-- the entries that were there at the opening were seen, and might be asked
pub record IsOpened (config : Configuration) (s : UnitSeat) : Type 0 where
  pub low : s.opening ≤ length s.seen
  pub asked : Each (IsAsked config) (take s.opening s.seen)

pub record KeepsRoot (config : Configuration) (made : ℕ) (seqs : List ℕ) (root : RootState) (seats : List UnitSeat) : Type 0 where
  pub is : IsRoot config made (seens seats) (kepts seats) root.out root.joined
  pub gates_are : AreGates config (gates_of seats)
  pub units : length seats ≡ length config.units
  pub free : AllFree seats
  pub firsts : AreFirst seats
  pub outs : Each (λ (s : UnitSeat). s.out ≡ length root.out) seats
  pub nothing : Each (λ (s : UnitSeat). s.own ≡ []) seats
  pub openings : Each (IsOpened config) seats
  pub seqs_are : AreSeqs seqs (length seats) root.joined
