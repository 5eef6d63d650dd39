-- Bytes that are at hand
use Rattle.std.specs.Prelude.{ℕ, List}

-- what is left of them
pub record Left : Type 0 where
  pub left : List ℕ
