-- The two sides of a connection
use Rattle.std.specs.Prelude.{◌≡◌, ◌≢◌, ℕ, List, [], ◌++◌, Option, None}

-- what is told of the bytes of one side, and how many of its calls failed
pub record Side : Type 0 where
  pub bytes : Option (List ℕ)
  pub faults : ℕ

-- the other side of what has but one
abbrev pub no_side : Side
no_side = record { bytes = None; faults = 0 }

-- some bytes begin others, and are not all of them
pub record IsCut (bytes all : List ℕ) : Type 0 where
  pub rest : List ℕ
  pub whole : bytes ++ rest ≡ all
  pub more : rest ≢ []
