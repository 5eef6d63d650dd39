-- The players of histories
use Rattle.std.specs.Prelude.{◌≡◌, ℕ, List}
use Rattle.cm_base.specs.Configuration.{Configuration}
use Rattle.cm_history.specs.declared.act.Entry.{Entry}
use Rattle.plain_model.specs.Holds.{AreWithin}

-- a unit of a configuration, and the entries that it was asked for
pub record Played : Type 0 where
  pub config : Configuration
  pub unit : ℕ
  pub entries : List Entry

-- it is this unit of the configuration, and each act that it was asked for is within its limits
abbrev pub IsPlayer : Configuration → ℕ → Played → Type 0
IsPlayer config number p = (p.config ≡ config) × (p.unit ≡ number) × AreWithin config number p.entries
