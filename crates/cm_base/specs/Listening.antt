-- Links that are handed out, and given back
use Rattle.std.specs.Prelude.{◌≡◌, ℕ, List, [], ◌∷◌, ◌++◌, Option, Some, None, Bool, IsSome, nat_lt, ◌||◌}

-- what a link that was given back had taken, and whether a pull or a push on it had failed
pub record Gone : Type 0 where
  pub taken : List ℕ
  pub broken : Bool

-- a link is broken where a count of its faults is above 0
abbrev pub is_broken : ℕ → ℕ → Bool
is_broken reads writes = nat_lt 0 reads || nat_lt 0 writes

-- The first of the links to come is handed out, by the bytes that it has to give.
abbrev pub HandsOut : Option (List (List ℕ)) → Option (List (List ℕ)) → Option (List ℕ) → Type 0
HandsOut None rest left = rest ≡ None
HandsOut (Some coming) rest left = (bytes : List ℕ) × (later : List (List ℕ)) × (coming ≡ bytes ∷ later) × (rest ≡ Some later) × (left ≡ Some bytes)

-- The links that were given back gain this one, by what it had taken and whether it is broken.
abbrev pub TakesBack : Option (List Gone) → Option (List Gone) → Option (List ℕ) → Bool → Type 0
TakesBack None after taken broken = after ≡ None
TakesBack (Some before) after None broken = IsSome after
TakesBack (Some before) after (Some taken) broken = after ≡ Some (before ++ record { taken = taken; broken = broken } ∷ [])
