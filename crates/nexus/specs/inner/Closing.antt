-- The root's seats when the world is closed
use Rattle.std.specs.Prelude.{◌≡◌, ◌≤◌, ℕ, zero, suc, ⊤, List, [], ◌∷◌, ◌++◌, length, map, drop, true, false}
use Rattle.cm_history.specs.declared.act.Entry.{Entry}
use Rattle.cm_history.specs.Members.{Each, In}
use Rattle.merged_history.specs.PassRules.{IsHistory}
use Rattle.unit_gate.specs.declared.kin.RecorderFacts.{RecorderFacts}
use Rattle.unit_gate.specs.declared.recorded_unit.ClosedUnit.{ClosedUnit}
use Rattle.unit_gate.specs.Recorded.{RecordedState, kin_of, marks_of}
use Rattle.unit_gate.specs.SeatActs.{UnitSeat, HasTaken, IsHeldBy}
use Rattle.nexus.specs.Closing.{IsLeftOf}
use Rattle.nexus.specs.Worlds.{UnitGate}
use Rattle.nexus.specs.inner.Keeping.{entries_joined, gates_of}

-- the first seat, while no other is out
pub record IsAlone (s : UnitSeat) : Type 0 where
  pub first : s.first ≡ true
  pub out : s.out ≡ 0
  pub free : s.holds ≡ false

abbrev pub AreAlone : List UnitSeat → Type 0
AreAlone seats = Each IsAlone seats

-- the seat has taken the turn of the unit
pub record HasEntered (before after : UnitSeat) (unit : RecordedState) : Type 0 where
  pub taken : HasTaken (kin_of unit) before after
  pub held : IsHeldBy before.gate.kin after unit

-- the first n seats have taken their units' turns
abbrev pub AreEntered : List UnitSeat → List UnitSeat → List RecordedState → ℕ → Type 0
AreEntered old now units zero = (now ≡ old) × (units ≡ [])
AreEntered (b ∷ bs) (a ∷ al) (u ∷ us) (suc n) = HasEntered b a u × AreEntered bs al us n
AreEntered _ _ _ (suc n) = ⊥

-- each seat has the turn of its unit
abbrev pub AreHeld : List UnitSeat → List RecordedState → Type 0
AreHeld [] [] = ⊤
AreHeld (s ∷ ss) (u ∷ us) = IsHeldBy s.gate.kin s u × AreHeld ss us
AreHeld _ _ = ⊥

abbrev pub given_back : UnitSeat → UnitSeat
given_back s = record s { holds = false }

-- the first n seats hold their turns still, and the rest have given them back
abbrev pub back_from : ℕ → List UnitSeat → List UnitSeat
back_from zero seats = map given_back seats
back_from (suc n) [] = []
back_from (suc n) (s ∷ ss) = s ∷ back_from n ss

-- the first seat, while no other is out; it has made nothing itself
pub record IsReady (s : UnitSeat) : Type 0 where
  pub first : s.first ≡ true
  pub out : s.out ≡ 0
  pub nothing : s.own ≡ []

abbrev pub AreReady : List UnitSeat → Type 0
AreReady seats = Each IsReady seats

module _ {R : Type 0} (facts : R → RecorderFacts) (fits : R → Entry → Type 0) where
  -- the gate is closed: the entries behind the opening ones are those that joined seats have made
  pub record IsClosed (s : UnitSeat) (unit : RecordedState) (left : ClosedUnit R) : Type 0 where
    pub made : Each (λ (e : Entry). In e (entries_joined s.joined)) (drop s.opening s.seen)
    pub later : Each (λ (e : Entry). In e (drop s.opening s.seen)) (entries_joined s.joined)
    pub left_of : IsLeftOf facts fits (kin_of unit) s.seen left
    pub kept_is : left.history.entries ≡ unit.unit.kept
    pub marks_are : (facts left.recorder).faults ∷ left.folded ∷ left.late ∷ [] ≡ marks_of unit

  abbrev pub AreClosed : List UnitSeat → List RecordedState → List (ClosedUnit R) → Type 0
  AreClosed [] [] [] = ⊤
  AreClosed (s ∷ ss) (u ∷ us) (l ∷ ls) = IsClosed s u l × AreClosed ss us ls
  AreClosed _ _ _ = ⊥

-- the last turns are given back, and these are left
pub record LeftSoFar (old now : List UnitSeat) (turns left : List RecordedState) : Type 0 where
  pub is : now ≡ back_from (length left) old
  pub gone : List RecordedState
  pub whole : left ++ gone ≡ turns

pub record EnteredSoFar (old now : List UnitSeat) (turns : List RecordedState) (n room_then room_now : ℕ) : Type 0 where
  pub entered : AreEntered old now turns n
  pub room : room_then ≤ room_now

-- the first gates are closed, and these are left, each with its seat and its turn
pub record ClosedSoFar {R : Type 0} (facts : R → RecorderFacts) (fits : R → Entry → Type 0) (seats seats_left : List UnitSeat) (turns turns_left : List RecordedState) (gates_left : List UnitGate) (units : List (ClosedUnit R)) (room_then room_now : ℕ) : Type 0 where
  pub gone_seats : List UnitSeat
  pub gone_turns : List RecordedState
  pub seats_are : gone_seats ++ seats_left ≡ seats
  pub turns_are : gone_turns ++ turns_left ≡ turns
  pub gates_are : gates_of seats_left ≡ gates_left
  pub closed : AreClosed facts fits gone_seats gone_turns units
  pub held : AreHeld seats_left turns_left
  pub ready : AreReady seats_left
  pub room : room_then ≤ room_now
