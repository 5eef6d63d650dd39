-- A source behind another one
use Rattle.std.specs.Prelude.{ℕ, List, [], ◌++◌, Option, Some, None, Bool, true, false}

-- what the first source will give, which gives nothing once it has ended
abbrev pub left_of : Bool → Option (List ℕ) → Option (List ℕ)
left_of ended None = None
left_of false (Some bytes) = Some bytes
left_of true (Some bytes) = Some []

-- what both will give, the second behind the first, where both are told
abbrev pub joined : Option (List ℕ) → Option (List ℕ) → Option (List ℕ)
joined (Some bytes) (Some more) = Some (bytes ++ more)
joined (Some bytes) None = None
joined None known = None
