-- Numbers that are spelled
use Rattle.std.specs.Prelude.{ℕ, ◌≤◌}

-- from 1 to the most
abbrev pub IsUpTo : ℕ → ℕ → Type 0
IsUpTo most n = (1 ≤ n) × (n ≤ most)
