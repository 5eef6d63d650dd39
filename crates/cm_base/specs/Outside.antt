-- What the outside gives and takes, and its faults
use Rattle.std.specs.Prelude.{◌≡◌, ℕ, ◌+◌, ◌-◌, ◌^◌, List, ◌++◌, Option, ◌⊎◌, is_some}

-- one more fault was counted, or the count is full
abbrev pub Faulted : ℕ → ℕ → Type 0
Faulted old new = (new ≡ old + 1) ⊎ ((old ≡ 2 ^ 64 - 1) × (new ≡ old))

-- what is told of the bytes is still told, and what is not is still not
abbrev pub StaysTold : Option (List ℕ) → Option (List ℕ) → Type 0
StaysTold old new = is_some new ≡ is_some old

-- some bytes begin others
abbrev pub IsBeginning : List ℕ → List ℕ → Type 0
IsBeginning bytes all = (rest : List ℕ) × (bytes ++ rest ≡ all)
