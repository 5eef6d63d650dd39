-- A unit with its recorder, as contracts see it
use Rattle.std.specs.Prelude.{◌≡◌, ℕ, ◌-◌, List, [], ◌∷◌, length, take, Option, None, option_map, IfSome, Bool}
use Rattle.std.specs.List.{last_or}
use Rattle.cm_history.specs.declared.act.Entry.{Entry}
use Rattle.merged_history.specs.Own.{Rises}
use Rattle.recorder.specs.Recording.{with_more}
use Rattle.unit_core.specs.UnitState.{UnitState, Stands}
use Rattle.unit_gate.specs.declared.kin.RecorderFacts.{RecorderFacts}
use Rattle.unit_gate.specs.declared.kin.UnitKin.{UnitKin}

pub record RecordedState : Type 0 where
  pub unit : UnitState
  pub recorder : RecorderFacts
  -- the recorder as it was given to the unit, without the unit's entries that it had recorded by then, and how many they are
  pub opening : RecorderFacts
  pub folded_then : ℕ
  -- how often entries were to be recorded as soon as they were made, and the recorder wanted memory
  pub late : ℕ

-- what contracts see of a recorder
module _ {R : Type 0} (recorded : R → Option (List Entry)) (faults : R → ℕ) (absent : R → Bool) (front : R → Option (List ℕ)) where
  abbrev pub facts : R → RecorderFacts
  facts r = record { recorded = recorded r; faults = faults r; absent = absent r; front = front r }

-- the recorder without so many of the last entries that it has recorded
abbrev pub without_last : ℕ → RecorderFacts → RecorderFacts
without_last n r = record r { recorded = option_map (λ es. take (length es - n) es) r.recorded }

-- The unit answers as after these entries, whose stamps rise. As many of the first ones as it has dropped were recorded
-- since, where the recorder tells.
pub record StandsFor (s : RecordedState) (entries : List Entry) : Type 0 where
  pub unit : Stands s.unit entries
  pub rising : Rises 0 entries
  pub recorded : s.recorder.recorded ≡ with_more s.opening.recorded (take s.unit.folded entries)

-- a unit that answers so, of whose entries the recorder, where it tells, has recorded those that the unit has dropped
pub record HasRecorded (unit : UnitState) (recorded : Option (List Entry)) (entries : List Entry) : Type 0 where
  pub unit_is : Stands unit entries
  pub rising : Rises 0 entries
  pub first : IfSome recorded (λ es. es ≡ take unit.folded entries)

-- the last kept entry
abbrev pub newest : RecordedState → Option Entry
newest s = last_or None s.unit.kept

-- what no turn changes
abbrev pub kin_of : RecordedState → UnitKin
kin_of s = record { config = s.unit.config; unit = s.unit.unit; opening = s.opening; folded = s.folded_then }

-- numbers that no turn lowers: the records that failed, the entries that were recorded and dropped, and how often they
-- were not for want of memory
abbrev pub marks_of : RecordedState → List ℕ
marks_of s = s.recorder.faults ∷ s.unit.folded ∷ s.late ∷ []
