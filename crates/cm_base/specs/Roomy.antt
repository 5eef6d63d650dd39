-- A list with its room, as contracts see it
use Rattle.std.specs.Prelude.{ℕ, List}

pub record Roomy (T : Type 0) : Type 0 where
  pub items : List T
  -- how many more items have room
  pub spare : ℕ
