-- What is true of every pass and of every root, and of a pass whose entries are recorded as soon as they are made
use Rattle.std.specs.Prelude.{◌≡◌, ◌⊎◌, ℕ, ◌<◌, List, Some, slice_get}
use Rattle.cm_history.specs.declared.act.Entry.{Entry}
use Rattle.cm_history.specs.History.{on}
use Rattle.cm_history.specs.Members.{Each}
use Rattle.merged_history.specs.Merged.{merged}
use Rattle.merged_history.specs.Passes.{of_unit}
use Rattle.merged_history.specs.PassRules.{IsPass, IsRoot}
use Rattle.recorder.specs.Recording.{Rose}
use Rattle.nexus.specs.Worlds.{PassView, HasSome, faults_at, folded_at, late_at}
use Rattle.nexus.specs.Roots.{RootView}

-- its own entries are those of lists, one for each unit, and these stand in what it has seen
pub record IsSoundPass (pass : PassView) : Type 0 where
  pub owns : List (List Entry)
  pub own_is : pass.own ≡ merged owns
  pub is : IsPass pass.config pass.ticket owns pass.seen

-- the entries of joined passes, for each unit a list (`kept`), stand in what it has seen
pub record IsSoundRoot (root : RootView) : Type 0 where
  pub kept : List (List Entry)
  pub is : IsRoot root.config root.made root.seen kept root.out root.joined

-- the entry stands among those of the unit that are recorded and dropped
pub record IsRecorded (pass : PassView) (unit : ℕ) (e : Entry) : Type 0 where
  pub place : ℕ
  pub stands : slice_get (of_unit pass.seen unit) place ≡ Some e
  pub recorded : place < folded_at pass unit

-- each own entry on the unit is recorded, or of the unit's records one has failed since so many had, or memory for one was wanted
abbrev pub IsSafeOn : PassView → ℕ → ℕ → Type 0
IsSafeOn pass unit faults =
    Each (IsRecorded pass unit) (on unit pass.own)
    ⊎ Rose faults (faults_at pass unit)
    ⊎ (0 < late_at pass unit)

-- it is so of each unit with a recorder, since the opening of the world
abbrev pub IsSafe : PassView → Type 0
IsSafe pass = (unit : ℕ) (some : HasSome pass.gates unit) → IsSafeOn pass unit some.kin.opening.faults
