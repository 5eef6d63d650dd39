-- The past that the plain answers go through
use Rattle.std.specs.Prelude.{◌≡◌, ℕ, List, length, slice_get, Some}
use Rattle.cm_base.specs.Configuration.{Configuration}
use Rattle.cm_base.specs.Units.{unit_of}
use Rattle.cm_history.specs.declared.act.Entry.{Entry}
use Rattle.cm_history.specs.Deeds.{Deed}
use Rattle.cm_history.specs.History.{past_of}
use Rattle.plain_model.specs.inner.Holds.{IsSizedPast}
use Rattle.plain_model.specs.inner.Fitting.{AllFit}

-- the past of the entries, and its blocks have the unit's length
pub record IsPlayed (config : Configuration) (unit : ℕ) (entries : List Entry) (past : List Deed) : Type 0 where
  pub is : past ≡ past_of config unit entries
  pub sized : IsSizedPast (unit_of config unit).block_length past

-- each unit has the past of the entries, which are within their limits
pub record HavePlayed (config : Configuration) (entries : List Entry) (units : List (List Deed)) : Type 0 where
  pub count : length units ≡ length config.units
  pub each : (unit : ℕ) (past : List Deed) → slice_get units unit ≡ Some past → IsPlayed config unit entries past
  pub fits : (unit : ℕ) → AllFit config unit (past_of config unit entries)
