-- A world of units and its passes, as contracts see them
use Rattle.std.specs.Prelude.{◌≡◌, ◌⊎◌, ℕ, ◌+◌, ◌≤◌, ◌^◌, ◌-◌, List, [], ◌∷◌, ◌++◌, length, max, map, is_some, slice_get, slice_set, slice_index, slice_index_or, Option, Some, None, Bool, true, false}
use Rattle.std.specs.List.{All}
use mathlib.Core.List.{IsPrefix}
use Rattle.atomic_table.specs.Seated.{TableId}
use Rattle.cm_base.specs.Configuration.{Configuration}
use Rattle.cm_base.specs.Units.{unit_of}
use Rattle.cm_history.specs.declared.act.Act.{Act}
use Rattle.cm_history.specs.declared.act.Actor.{Actor}
use Rattle.cm_history.specs.declared.act.Entry.{Entry}
use Rattle.cm_history.specs.declared.answer.Answer.{Answer}
use Rattle.cm_history.specs.declared.refused.ActRefused.{ActRefused}
use Rattle.cm_history.specs.Deeds.{Deed, last_stamp}
use Rattle.cm_history.specs.Ends.{ends_operation}
use Rattle.cm_history.specs.Forms.{HasForm}
use Rattle.cm_history.specs.History.{past_of, answer}
use Rattle.cm_history.specs.Operations.{would_serve}
use Rattle.cm_history.specs.Room.{is_full}
use Rattle.merged_history.specs.Passes.{of_unit}
use Rattle.merged_history.specs.PassRules.{IsHistory}
use Rattle.merged_history.specs.declared.known.Ticket.{Ticket}
use Rattle.recorder.specs.Recording.{Rose}
use Rattle.turn_gate.specs.Marks.{AtMost}
use Rattle.turn_gate.specs.Seats.{GateName}
use Rattle.unit_gate.specs.declared.kin.UnitKin.{UnitKin}
use Rattle.unit_gate.specs.declared.refused.TryRefused.{TryRefused}

-- the gate of a unit
abbrev pub UnitGate : Type 0
UnitGate = GateName UnitKin

pub record WorldView : Type 0 where
  pub config : Configuration
  -- the gate of each unit
  pub gates : List UnitGate
  -- the register of its passes
  pub register : TableId

pub record PassView : Type 0 where
  pub config : Configuration
  pub gates : List UnitGate
  pub register : TableId
  -- its actor, and what the earlier passes of the actor had made
  pub ticket : Ticket
  -- its own entries, in order
  pub own : List Entry
  -- for each unit a beginning of its history
  pub seen : List (List Entry)
  -- for each unit whether the pass holds it
  pub holds : List Bool
  -- for each unit how often it found the turn taken
  pub misses : List ℕ
  -- for each unit how many records had failed, how many entries were recorded and dropped, and how often they were not for
  -- want of memory, in the last turn
  pub marks : List (List ℕ)

-- the pass is one of this world
pub record IsOf (world : WorldView) (pass : PassView) : Type 0 where
  pub config : pass.config ≡ world.config
  pub gates : pass.gates ≡ world.gates
  pub register : pass.register ≡ world.register

-- the pass of the nexus of this number in the world, which holds no unit
pub record IsFreePass (world : WorldView) (number : ℕ) (pass : PassView) : Type 0 where
  pub of_world : IsOf world pass
  pub free : All (λ h. h ≡ false) pass.holds
  pub actor : pass.ticket.actor ≡ Actor.Nexus number

-- the stamp of the last entry, or 0
abbrev pub last_stamp_of : List Entry → ℕ
last_stamp_of [] = 0
last_stamp_of (e ∷ []) = e.stamp
last_stamp_of (e ∷ f ∷ es) = last_stamp_of (f ∷ es)

-- ---- what an act does to a pass

-- the history of the unit in this turn, of which what was seen is a beginning
pub record IsTurnOf (before : PassView) (unit : ℕ) (history : List Entry) : Type 0 where
  pub longer : IsPrefix (of_unit before.seen unit) history
  pub is_history : IsHistory unit history

-- what may rise at a unit in a turn
pub record MayRise (before after : PassView) (unit : ℕ) : Type 0 where
  pub misses : slice_index before.misses unit ≤ slice_index after.misses unit
  pub marks : AtMost (slice_index_or before.marks unit []) (slice_index_or after.marks unit [])

-- the pass after a turn on the unit, in which it saw `history`
abbrev pub seen_at : PassView → PassView → ℕ → List Entry → PassView
seen_at before after unit history = record before {
  seen = slice_set before.seen unit history;
  misses = slice_set before.misses unit (slice_index after.misses unit);
  marks = slice_set before.marks unit (slice_index_or after.marks unit []);
}

-- the entry of an act: its stamp comes behind the last of the pass and the last of the unit
abbrev pub entry_of : PassView → ℕ → List Entry → ℕ → Act → Entry
entry_of pass unit history moment act = record {
  stamp = max (last_stamp_of pass.own) (last_stamp (past_of pass.config unit history)) + 1;
  unit = unit;
  actor = pass.ticket.actor;
  seq = length pass.ticket.before + length pass.own;
  moment = moment;
  act = act;
}

-- the act was answered over the history in this turn, and made one more entry
pub record WasAnswered (before after : PassView) (unit moment : ℕ) (act : Act) (a : Answer) : Type 0 where
  pub history : List Entry
  pub turn : IsTurnOf before unit history
  pub answered : a ≡ answer before.config history unit before.ticket.actor moment act
  pub form : HasForm before.config unit act a
  pub rises : MayRise before after unit
  pub pass : after ≡ record (seen_at before after unit (history ++ entry_of before unit history moment act ∷ [])) {
    own = before.own ++ entry_of before unit history moment act ∷ [];
  }

-- the history was seen, and all else stays
pub record HasLooked (before after : PassView) (unit : ℕ) : Type 0 where
  pub history : List Entry
  pub turn : IsTurnOf before unit history
  pub rises : MayRise before after unit
  pub pass : after ≡ seen_at before after unit history

-- the unit has no recorder
pub record HasNone (gates : List UnitGate) (unit : ℕ) : Type 0 where
  pub gate : UnitGate
  pub at : slice_get gates unit ≡ Some gate
  pub kin : UnitKin
  pub has : gate.kin ≡ Some kin
  pub absent : kin.opening.absent ≡ true

abbrev pub faults_at : PassView → ℕ → ℕ
faults_at pass unit = slice_index_or (slice_index_or pass.marks unit []) 0 0

abbrev pub folded_at : PassView → ℕ → ℕ
folded_at pass unit = slice_index_or (slice_index_or pass.marks unit []) 1 0

abbrev pub late_at : PassView → ℕ → ℕ
late_at pass unit = slice_index_or (slice_index_or pass.marks unit []) 2 0

-- the unit has a recorder
pub record HasSome (gates : List UnitGate) (unit : ℕ) : Type 0 where
  pub gate : UnitGate
  pub at : slice_get gates unit ≡ Some gate
  pub kin : UnitKin
  pub has : gate.kin ≡ Some kin
  pub present : kin.opening.absent ≡ false

-- all entries of the unit that were seen are recorded and dropped, or that failed in this call, or wanted memory in it
abbrev pub WasSaved : PassView → PassView → ℕ → Type 0
WasSaved before after unit =
    (folded_at after unit ≡ length (of_unit after.seen unit))
    ⊎ Rose (faults_at before unit) (faults_at after unit)
    ⊎ Rose (late_at before unit) (late_at after unit)

-- it is so where entries are recorded as soon as they are made, and the unit has a recorder
abbrev pub IsSaved : Bool → PassView → PassView → ℕ → Type 0
IsSaved eager before after unit = eager ≡ true → HasSome before.gates unit → WasSaved before after unit

-- all entries of the unit that were seen are recorded and dropped, or it has no recorder, or that failed in this call
abbrev pub WasFolded : PassView → PassView → ℕ → Type 0
WasFolded before after unit =
    (folded_at after unit ≡ length (of_unit after.seen unit))
    ⊎ HasNone before.gates unit
    ⊎ Rose (faults_at before unit) (faults_at after unit)

-- the unit's record has no room for the act
abbrev pub IsFullAt : PassView → PassView → ℕ → Act → Type 0
IsFullAt before after unit act =
    is_full (unit_of before.config unit) (folded_at after unit) (past_of before.config unit (of_unit after.seen unit))
    before.ticket.actor (last_stamp_of before.own) act ≡ true

-- at Full there is no room over the history that was seen, after its entries were recorded as far as that went
abbrev pub NotDone : PassView → PassView → ℕ → Act → ActRefused → Type 0
NotDone before after unit act ActRefused.Full =
    HasLooked before after unit × IsFullAt before after unit act × WasFolded before after unit
NotDone before after unit act ActRefused.OutOfMemory = HasLooked before after unit

-- the unit's past, as far as it was seen
abbrev pub past_seen : PassView → PassView → ℕ → List Deed
past_seen before after unit = past_of before.config unit (of_unit after.seen unit)

-- there is no stamp behind the greater of the pass's last and the unit's last
abbrev pub IsAtLastStamp : PassView → PassView → ℕ → Type 0
IsAtLastStamp before after unit = max (last_stamp_of before.own) (last_stamp (past_seen before after unit)) ≡ 2 ^ 64 - 1

-- while there are stamps, an act that serves a running operation meets no full record, and one that ends it is not refused
pub record IsServed (before after : PassView) (unit : ℕ) (act : Act) (refused : ActRefused) : Type 0 where
  pub serving :
      refused ≡ ActRefused.Full → is_some (would_serve (past_seen before after unit) before.ticket.actor act) ≡ true
      → IsAtLastStamp before after unit
  pub ending : ends_operation (past_seen before after unit) before.ticket.actor act ≡ true → IsAtLastStamp before after unit

-- the turn was taken
abbrev pub FoundTaken : PassView → PassView → ℕ → Type 0
FoundTaken before after unit = after ≡ record before {
  misses = slice_set before.misses unit (slice_index before.misses unit + 1);
}

abbrev pub NotTaken : PassView → PassView → ℕ → Act → TryRefused → Type 0
NotTaken before after unit act (TryRefused.Held handed) = (handed ≡ act) × FoundTaken before after unit
NotTaken before after unit act (TryRefused.Act e) = NotDone before after unit act e

-- whatever comes of an act, the pass is of the same actor, and holds the same units
abbrev pub Stays : PassView → PassView → Type 0
Stays before after = after ≡ record before {
  own = after.own;
  seen = after.seen;
  misses = after.misses;
  marks = after.marks;
}
