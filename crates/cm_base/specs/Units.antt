-- What is told of the units
use Rattle.std.specs.Prelude.{ℕ, List, [], ◌∷◌, ◌++◌, length, slice_get, Option, Some, None, Bool, nat_lt}
use Rattle.byteorder.specs.Endian.{big_bytes}
use Rattle.cm_base.specs.Configuration.{Configuration}
use Rattle.cm_base.specs.declared.config.UnitConfig.{UnitConfig}
use Rattle.cm_base.specs.Fields.{zeros}

-- what is told of a unit, and nothing of one that is not there
abbrev pub told : Option UnitConfig → UnitConfig
told (Some unit) = unit
told None = record { blocks = 0; block_length = 0; entries = 0; quota = 0; payload = 0; group = 0 }

-- what is told of the unit of this number
abbrev pub unit_of : Configuration → ℕ → UnitConfig
unit_of config unit = told (slice_get config.units unit)

-- there is a unit of this number
abbrev pub is_configured : Configuration → ℕ → Bool
is_configured config unit = nat_lt unit (length config.units)

-- eight bytes
abbrev pub unit_name : ℕ → List ℕ
unit_name unit = 0x30 ∷ zeros 5 ++ big_bytes 2 unit

-- the CSCD descriptor of a unit: 32 bytes
abbrev pub unit_descriptor : Configuration → ℕ → List ℕ
unit_descriptor config unit =
    (0xe4 ∷ 0 ∷ 0 ∷ 0 ∷ 1 ∷ 3 ∷ 0 ∷ 8 ∷ []) ++ unit_name unit ++ zeros 12
    ++ 0 ∷ big_bytes 3 (unit_of config unit).block_length
