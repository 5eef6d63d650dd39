-- What a seat at a unit's gate has done and has seen
use Rattle.std.specs.Prelude.{◌≡◌, ◌⊎◌, ℕ, ◌+◌, ◌≤◌, ⊤, List, length, slice_index_or, Option, Some, Bool, true, false}
use mathlib.Core.List.{IsPrefix}
use Rattle.cm_history.specs.declared.act.Entry.{Entry}
use Rattle.cm_history.specs.declared.refused.ActRefused.{ActRefused}
use Rattle.cm_history.specs.Forms.{HasForm}
use Rattle.cm_history.specs.History.{answer}
use Rattle.merged_history.specs.PassRules.{IsHistory}
use Rattle.recorder.specs.Recording.{Rose}
use Rattle.turn_gate.specs.Marks.{AtMost}
use Rattle.turn_gate.specs.Seats.{SeatState, with_newest}
use Rattle.unit_gate.specs.declared.asked.Acted.{Acted}
use Rattle.unit_gate.specs.declared.asked.AskedAct.{AskedAct}
use Rattle.unit_gate.specs.declared.kin.UnitKin.{UnitKin}
use Rattle.unit_gate.specs.declared.refused.TryRefused.{TryRefused}
use Rattle.unit_gate.specs.Asking.{entry_of, is_full_at}
use Rattle.unit_gate.specs.Recorded.{RecordedState, StandsFor, kin_of, marks_of}

-- a seat at the gate of a unit
abbrev pub UnitSeat : Type 0
UnitSeat = SeatState Entry UnitKin

-- how many records had failed when the seat last had the turn
abbrev pub faults_of : UnitSeat → ℕ
faults_of s = slice_index_or s.marks 0 0

-- how many entries were recorded and dropped by then
abbrev pub folded_of : UnitSeat → ℕ
folded_of s = slice_index_or s.marks 1 0

-- how often entries had not been recorded for want of memory
abbrev pub late_of : UnitSeat → ℕ
late_of s = slice_index_or s.marks 2 0

-- ---- a turn

-- the same seat at the same gate: it may have seen, made and counted more
pub record StaysSeated (before after : UnitSeat) : Type 0 where
  pub gate : after.gate ≡ before.gate
  pub holds : after.holds ≡ before.holds
  pub joined : after.joined ≡ before.joined
  pub first : after.first ≡ before.first
  pub out : after.out ≡ before.out
  pub opening : after.opening ≡ before.opening

-- the history in this turn, of which what was seen before is a beginning
pub record IsTurn (kin : UnitKin) (before : UnitSeat) (history : List Entry) : Type 0 where
  pub longer : IsPrefix before.seen history
  pub is_history : IsHistory kin.unit history

-- the seat has seen this history and is as before else, but for its counts, which may have risen
pub record HasLooked (before after : UnitSeat) (history : List Entry) : Type 0 where
  pub misses : before.misses ≤ after.misses
  pub marks : AtMost before.marks after.marks
  pub seat : after ≡ record before { seen = history; misses = after.misses; marks = after.marks }

-- the seat has made one entry more, the last of the history
abbrev pub counted : UnitSeat → Entry → UnitSeat
counted s e = with_newest s (Some e)

-- the act was answered over the history in this turn, and one entry came to its end
pub record HasActed (kin : UnitKin) (before after : UnitSeat) (asked : AskedAct) (acted : Acted) : Type 0 where
  pub history : List Entry
  pub turn : IsTurn kin before history
  pub answered : acted.answer ≡ answer kin.config history kin.unit asked.actor asked.moment asked.act
  pub form : HasForm kin.config kin.unit asked.act acted.answer
  pub stamp : acted.stamp ≡ (entry_of kin history asked).stamp
  pub misses : before.misses ≤ after.misses
  pub marks : AtMost before.marks after.marks
  pub seat : after ≡ record (counted (record before { seen = history }) (entry_of kin history asked)) { misses = after.misses; marks = after.marks }

-- nothing came to the history, which the seat has seen
pub record HasSeen (kin : UnitKin) (before after : UnitSeat) : Type 0 where
  pub turn : IsTurn kin before after.seen
  pub looked : HasLooked before after after.seen

-- all that was seen is recorded and dropped, or there is no recorder, or it failed since
abbrev pub WasFolded : UnitKin → UnitSeat → UnitSeat → Type 0
WasFolded kin before after = (folded_of after ≡ length after.seen) ⊎ (kin.opening.absent ≡ true) ⊎ Rose (faults_of before) (faults_of after)

-- at Full there is no room over the history that was seen, after its entries were recorded as far as that went
abbrev pub IsRefused : UnitKin → UnitSeat → UnitSeat → AskedAct → ActRefused → Type 0
IsRefused kin before after asked ActRefused.Full =
    HasSeen kin before after × (is_full_at kin after.seen (folded_of after) asked ≡ true) × WasFolded kin before after
IsRefused kin before after asked ActRefused.OutOfMemory = HasSeen kin before after

-- all that was seen is recorded and dropped, or that failed since, or wanted memory since
abbrev pub WasSaved : UnitSeat → UnitSeat → Type 0
WasSaved before after = (folded_of after ≡ length after.seen) ⊎ Rose (faults_of before) (faults_of after) ⊎ Rose (late_of before) (late_of after)

-- where entries are recorded as soon as they are made, and there is a recorder
abbrev pub IsSaved : Bool → UnitKin → UnitSeat → UnitSeat → Type 0
IsSaved eager kin before after = eager ≡ true → kin.opening.absent ≡ false → WasSaved before after

-- this call found the turn taken
abbrev pub Missed : UnitSeat → UnitSeat → Type 0
Missed before after = after ≡ record before { misses = before.misses + 1 }

abbrev pub IsTryRefused : UnitKin → UnitSeat → UnitSeat → AskedAct → TryRefused → Type 0
IsTryRefused kin before after asked (TryRefused.Held act) = (act ≡ asked.act) × Missed before after
IsTryRefused kin before after asked (TryRefused.Act e) = IsRefused kin before after asked e × (after.misses ≡ before.misses)

-- P of a refusal by the unit itself
abbrev pub IfAct : TryRefused → (ActRefused → Type 0) → Type 0
IfAct (TryRefused.Held act) P = ⊤
IfAct (TryRefused.Act e) P = P e

-- ---- a turn that is kept

-- the seat has taken the turn, and has seen the history since
pub record HasTaken (kin : UnitKin) (before after : UnitSeat) : Type 0 where
  pub turn : IsTurn kin before after.seen
  pub marks : AtMost before.marks after.marks
  pub seat : after ≡ record before { seen = after.seen; holds = true; marks = after.marks }

-- the seat has waited for the turn, which it may have found taken, and has taken it then
pub record HasWaited (kin : UnitKin) (before after : UnitSeat) : Type 0 where
  pub misses : before.misses ≤ after.misses
  pub taken : HasTaken kin (record before { misses = after.misses }) after

-- the seat has the turn of a unit of this kin
pub record IsHeldBy (kin : Option UnitKin) (seat : UnitSeat) (unit : RecordedState) : Type 0 where
  pub holds : seat.holds ≡ true
  pub stands : StandsFor unit seat.seen
  pub kin_is : kin ≡ Some (kin_of unit)
  pub marks : seat.marks ≡ marks_of unit
