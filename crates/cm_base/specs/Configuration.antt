-- What a machine of units is told
use Rattle.std.specs.Prelude.{◌≡◌, ℕ, ◌≤◌, List, length, All, ◌⊎◌}
use Rattle.cm_base.specs.declared.config.UnitConfig.{UnitConfig}

-- the secret from which the tokens of all units are made, and the units, of which the first has number 0
pub record Configuration : Type 0 where
  pub secret : List ℕ
  pub units : List UnitConfig

-- a unit whose numbers keep their limits
pub record IsUnit (u : UnitConfig) : Type 0 where
  pub blocks : (1 ≤ u.blocks) × (u.blocks ≤ 4_294_967_296)
  pub block_length : (u.block_length ≡ 512) ⊎ (u.block_length ≡ 4096)
  pub entries : (1 ≤ u.entries) × (u.entries ≤ 1_048_576)
  pub quota : u.quota ≤ u.blocks
  pub payload : (1 ≤ u.payload) × (u.payload ≤ 268_435_456)
  pub group : u.group ≤ 15

-- 1 to 16 units, each within its limits
pub record AreUnits (units : List UnitConfig) : Type 0 where
  pub count : (1 ≤ length units) × (length units ≤ 16)
  pub each : All IsUnit units
