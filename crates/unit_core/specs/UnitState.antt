-- A unit, as contracts see it
use Rattle.std.specs.Prelude.{◌≡◌, ◌≤◌, ℕ, List, length, drop, Bool}
use Rattle.cm_base.specs.Configuration.{Configuration}
use Rattle.cm_base.specs.Units.{unit_of}
use Rattle.cm_history.specs.declared.act.Entry.{Entry}
use Rattle.cm_history.specs.Asked.{AllAsked}
use Rattle.cm_history.specs.Deeds.{Deed}
use Rattle.cm_history.specs.History.{on, past_of}
use Rattle.cm_history.specs.Image.{Image, image, trimmed}
use Rattle.cm_history.specs.Tokens.{tokens}
use Rattle.unit_core.specs.Versions.{writer_seen, shares, shares_table}

pub record UnitState : Type 0 where
  pub config : Configuration
  pub unit : ℕ
  -- its own entries that were not recorded elsewhere yet, the oldest first
  pub kept : List Entry
  -- how many older ones were recorded and dropped
  pub folded : ℕ
  -- all that its answers depend on
  pub image : Image
  -- which of the versions are the same that it keeps of its blocks: the current ones, and those that live tokens show
  pub shares : List (List (List Bool))

-- which of the versions are the same by the deeds that wrote them, in a unit of so many blocks
abbrev pub shared_by : ℕ → List Deed → List (List (List Bool))
shared_by blocks past = shares_table blocks (length (tokens past)) (shares (writer_seen past))

-- The unit answers as after these entries, of which it keeps the later ones, and its versions are those that they wrote.
pub record Stands (s : UnitState) (entries : List Entry) : Type 0 where
  pub own : on s.unit entries ≡ entries
  pub asked : AllAsked s.config s.unit (past_of s.config s.unit entries)
  pub image : trimmed (image (unit_of s.config s.unit) (past_of s.config s.unit entries)) ≡ s.image
  pub keeps : drop s.folded entries ≡ s.kept
  pub few : s.folded ≤ length entries
  pub versions : shared_by (unit_of s.config s.unit).blocks (past_of s.config s.unit entries) ≡ s.shares
