-- What stays true of a unit with its recorder
use Rattle.std.specs.Prelude.{◌≡◌, ◌⊎◌, ℕ, List, [], true}
use Rattle.cm_history.specs.declared.act.Entry.{Entry}
use Rattle.recorder.specs.Recording.{FirstFits, Rose}
use Rattle.unit_core.specs.UnitState.{UnitState}
use Rattle.unit_gate.specs.declared.kin.RecorderFacts.{RecorderFacts}
use Rattle.unit_gate.specs.Recorded.{RecordedState, StandsFor, without_last}

-- what contracts see of the two, with the recorder as it was given, which had recorded so many of the unit's entries
abbrev pub state_of : {R : Type 0} → (R → RecorderFacts) → UnitState → R → R → ℕ → ℕ → RecordedState
state_of facts unit recorder opening folded late = record {
  unit = unit;
  recorder = facts recorder;
  opening = without_last folded (facts opening);
  folded_then = folded;
  late = late;
}

-- no entry is kept, or the recorder failed since, or wanted memory since
abbrev pub WasSaved : RecordedState → RecordedState → Type 0
WasSaved old new = (new.unit.kept ≡ []) ⊎ Rose old.recorder.faults new.recorder.faults ⊎ Rose old.late new.late

-- the first kept entry may be recorded next, and some list of entries makes the two as they are
pub record KeepsRecord (fits : Entry → Type 0) (s : RecordedState) : Type 0 where
  pub first : FirstFits fits s.unit.kept
  pub absent : s.recorder.absent ≡ s.opening.absent
  pub front : s.recorder.front ≡ s.opening.front
  pub unfolded : s.opening.absent ≡ true → s.unit.folded ≡ s.folded_then
  pub history : List Entry
  pub stands : StandsFor s history
