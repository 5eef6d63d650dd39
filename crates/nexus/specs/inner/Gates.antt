-- The gates of a configuration's units
use Rattle.std.specs.Prelude.{◌≡◌, ℕ, List, [], ◌∷◌, Option, Some, None}
use Rattle.cm_base.specs.Configuration.{Configuration}
use Rattle.unit_gate.specs.declared.kin.UnitKin.{UnitKin}
use Rattle.nexus.specs.Worlds.{UnitGate}

-- it is the gate of this unit of the configuration
pub record IsGateOf (config : Configuration) (unit : ℕ) (gate : UnitGate) : Type 0 where
  pub kin : UnitKin
  pub has : gate.kin ≡ Some kin
  pub config_is : kin.config ≡ config
  pub unit_is : kin.unit ≡ unit

-- the configuration of the unit behind a gate
abbrev pub config_in : Option UnitKin → Configuration
config_in None = record { secret = []; units = [] }
config_in (Some kin) = kin.config

-- the configuration of the units behind some gates, which is that of the first
abbrev pub config_of : List UnitGate → Configuration
config_of [] = config_in None
config_of (g ∷ gs) = config_in g.kin
