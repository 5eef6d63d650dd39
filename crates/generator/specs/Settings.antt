-- The units that a generated trace plays on, and what it is told of them
use Rattle.std.specs.Prelude.{ℕ, zero, suc, List, [], ◌∷◌}
use Rattle.cm_base.specs.Configuration.{Configuration}
use Rattle.cm_base.specs.declared.config.UnitConfig.{UnitConfig}

-- `n` numbers from the first on
abbrev pub count_from : ℕ → ℕ → List ℕ
count_from first zero = []
count_from first (suc n) = first ∷ count_from (suc first) n

-- a unit of 512 MiB in blocks of 512 bytes, all of which may be mapped, with the largest record
abbrev pub unit : UnitConfig
unit = record { blocks = 1_048_576; block_length = 512; entries = 1_048_576; quota = 1_048_576; payload = 268_435_456; group = 0 }

-- the secret 00h to 1Fh, and two units of one group
abbrev pub settings : Configuration
settings = record { secret = count_from 0 32; units = unit ∷ unit ∷ [] }
