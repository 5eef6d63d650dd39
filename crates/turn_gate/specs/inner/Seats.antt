-- What contracts see of a gate and of a seat
use Rattle.std.specs.Prelude.{◌≡◌, ℕ, ◌-◌, ◌≤◌, List, [], ◌∷◌, length, Bool, true, false, Option, Some, None}
use Rattle.atomic_table.specs.Table.{Me}
use Rattle.atomic_table.specs.Seated.{TableId}
use Rattle.turn_gate.specs.declared.view.View.{View}
use Rattle.turn_gate.specs.Seats.{GateName, IsSound, SeatState}

-- what a seat has of the slot: the holder has it empty, since the value is with the turn
abbrev pub carried : {V : Type 0} → Bool → List (ℕ × Option V)
carried true = (0, None) ∷ []
carried false = []

abbrev pub IsTable : TableId → Type 0
IsTable t = (t.words ≡ 2) × (t.slots ≡ 1)

module _ {E K : Type 0} where
  -- the view of a spent seat, one that was joined into the first
  abbrev pub blank : View E K
  blank = record { seen = []; own = []; joined = []; holds = false; misses = 0; first = false; made = 0; opening = 0; marks = []; kin = None }

  -- the first seat's, before the value is in
  abbrev pub unopened : View E K
  unopened = record blank { first = true }

  -- the first seat's, when it brings the value in
  abbrev pub opened : K → List E → List ℕ → View E K
  opened k history marks = record unopened { seen = history; holds = true; opening = length history; marks = marks; kin = Some k }

  -- the first seat as it begins, and a seat that is split off
  abbrev pub first_seat : GateName K → List E → List ℕ → SeatState E K
  first_seat gate history marks = record { gate = gate; seen = history; own = []; joined = []; holds = false; misses = 0; first = true; out = 0; opening = length history; marks = marks }

  abbrev pub state_of : TableId → View E K → SeatState E K
  state_of t v = record {
    gate = record { table = t; kin = v.kin };
    seen = v.seen;
    own = v.own;
    joined = v.joined;
    holds = v.holds;
    misses = v.misses;
    first = v.first;
    out = v.made - length v.joined;
    opening = v.opening;
    marks = v.marks;
  }

pub record IsSeated {V E K : Type 0} (table : TableId) (m : Me (Option V) (View E K)) : Type 0 where
  pub sound : IsSound (state_of table m.0)
  pub carries : m.1 ≡ carried m.0.holds
  pub fewer : length m.0.joined ≤ m.0.made

-- the table of a gate whose value is still to come, and its first seat, which has taken no step
pub record IsVacant {V E K : Type 0} (table seat : TableId) (m : Me (Option V) (View E K)) : Type 0 where
  pub is_table : IsTable table
  pub seat_is : seat ≡ table
  pub fresh : m ≡ (unopened, [])
