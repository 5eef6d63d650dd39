-- What the plain answers know of a past whose entries are within their limits
use Rattle.std.specs.Prelude.{◌≡◌, ℕ, List, slice_get, true, Some}
use Rattle.cm_base.specs.Configuration.{Configuration}
use Rattle.cm_history.specs.declared.act.Entry.{Entry}
use Rattle.cm_history.specs.Limits.{within_limits}

-- each act that the unit was asked for is within its limits
abbrev pub AreWithin : Configuration → ℕ → List Entry → Type 0
AreWithin config unit entries =
    (place : ℕ) (e : Entry) → slice_get entries place ≡ Some e → e.unit ≡ unit → within_limits config unit e.act ≡ true

-- units, and the entries that they have done, the oldest first
pub record PlayedUnits : Type 0 where
  pub config : Configuration
  pub entries : List Entry
