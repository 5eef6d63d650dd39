-- A unit that keeps all its entries: its record was never folded
use Rattle.std.specs.Prelude.{◌≡◌, ℕ, ◌+◌, List, max, Bool}
use Rattle.cm_base.specs.Configuration.{Configuration}
use Rattle.cm_base.specs.Units.{unit_of}
use Rattle.cm_history.specs.declared.act.Act.{Act}
use Rattle.cm_history.specs.declared.act.Actor.{Actor}
use Rattle.cm_history.specs.declared.act.Entry.{Entry}
use Rattle.cm_history.specs.Deeds.{Deed, last_stamp}
use Rattle.cm_history.specs.History.{past_of}
use Rattle.cm_history.specs.Room.{is_full}
use Rattle.unit_core.specs.UnitState.{UnitState, Stands}

-- nothing was dropped, and the unit stands for the entries that it keeps
pub record IsUnfolded (s : UnitState) : Type 0 where
  pub folded : s.folded ≡ 0
  pub stands : Stands s s.kept

pub record UnfoldedUnit : Type 0 where
  pub config : Configuration
  pub unit : ℕ
  -- its own entries, the oldest first
  pub entries : List Entry

abbrev pub unfolded : UnitState → UnfoldedUnit
unfolded s = record { config = s.config; unit = s.unit; entries = s.kept }

abbrev pub past : UnfoldedUnit → List Deed
past s = past_of s.config s.unit s.entries

abbrev pub is_full_at : UnfoldedUnit → Actor → ℕ → Act → Bool
is_full_at s actor stamp act = is_full (unit_of s.config s.unit) 0 (past s) actor stamp act

-- the entry of an act, with the stamp behind the greater of the caller's and the unit's last
abbrev pub entry_at : UnfoldedUnit → Actor → ℕ → ℕ → ℕ → Act → Entry
entry_at s actor seq stamp moment act =
    record { stamp = max stamp (last_stamp (past s)) + 1; unit = s.unit; actor = actor; seq = seq; moment = moment; act = act }
