-- What recorders are told of the histories of units
use Rattle.std.specs.Prelude.{◌≡◌, ◌⊎◌, ◌≤◌, ℕ, suc, ◌+◌, ◌-◌, List, [], ◌∷◌, length, take, slice_get, Some, IfSome, true, false}
use Rattle.cm_history.specs.declared.act.Entry.{Entry}
use Rattle.cm_history.specs.History.{on}
use Rattle.cmd_program.specs.Conversations.{Folding}
use Rattle.recorder.specs.Recording.{Rose, with_more}
use Rattle.unit_gate.specs.declared.kin.RecorderFacts.{RecorderFacts}

-- Below, `before` and `after` tell of recorders before and after a call, one for each unit.

-- So many entries may be written out, of a history of so many: none where there is no recorder, and all where there is one
-- that has not failed.
pub record MayFold (before after : RecorderFacts) (count folded : ℕ) : Type 0 where
  pub few : folded ≤ count
  pub absent : before.absent ≡ true → folded ≡ 0
  pub whole : before.absent ≡ false → (folded ≡ count) ⊎ Rose before.faults after.faults

-- all entries of a unit are given up, as soon as they were made
abbrev pub GivesUpAll : Folding
GivesUpAll unit count folded = folded ≡ count

-- how many entries of a unit may be written out, while its recorder is at work
abbrev pub FoldsBy : List RecorderFacts → List RecorderFacts → Folding
FoldsBy before after unit count folded =
    (b : RecorderFacts) × (a : RecorderFacts) × (slice_get before unit ≡ Some b) × (slice_get after unit ≡ Some a) × MayFold b a count folded

-- It is the same recorder, as far as it tells. The first `recorded` entries of a history were recorded since, where it
-- tells, and no others: all of them where there is a recorder that has not failed.
pub record HasRecorded (before after : RecorderFacts) (history : List Entry) (recorded : ℕ) : Type 0 where
  pub absent : after.absent ≡ before.absent
  pub front : after.front ≡ before.front
  pub may : MayFold before after (length history) recorded
  pub told : after.recorded ≡ with_more before.recorded (take recorded history)

-- of the unit with this number and the later ones so many entries were recorded
abbrev pub HaveRecorded : ℕ → List RecorderFacts → List RecorderFacts → List Entry → List ℕ → Type 0
HaveRecorded unit before after entries [] = Unit {0}
HaveRecorded unit before after entries (r ∷ rs) =
    IfSome (slice_get before unit) (λ b. IfSome (slice_get after unit) (λ a. HasRecorded b a (on unit entries) r))
    × HaveRecorded (suc unit) before after entries rs

-- how many entries were not recorded, of the unit with this number and the later ones
abbrev pub unrecorded : ℕ → List Entry → List ℕ → ℕ
unrecorded unit entries [] = 0
unrecorded unit entries (r ∷ rs) = length (on unit entries) - r + unrecorded (suc unit) entries rs

-- It is the same recorder, as far as it tells: what it had recorded stands there still, and these entries behind it.
pub record IsBack (before after : RecorderFacts) : Type 0 where
  pub absent : after.absent ≡ before.absent
  pub front : after.front ≡ before.front
  pub faults : before.faults ≤ after.faults
  pub more : List Entry
  pub goes_on : after.recorded ≡ with_more before.recorded more

-- each recorder is back in its place
abbrev pub AreBack : List RecorderFacts → List RecorderFacts → Type 0
AreBack [] [] = Unit {0}
AreBack (b ∷ bs) (a ∷ al) = IsBack b a × AreBack bs al
AreBack _ _ = ⊥
