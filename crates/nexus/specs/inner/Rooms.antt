-- The lists that a world fills when it ends
use Rattle.std.specs.Prelude.{ℕ, ◌≤◌}

-- for how many turns there is room, and for how many closed units
pub record Room : Type 0 where
  pub turns : ℕ
  pub units : ℕ

pub record HasRoom (count : ℕ) (room : Room) : Type 0 where
  pub turns_fit : count ≤ room.turns
  pub units_fit : count ≤ room.units
