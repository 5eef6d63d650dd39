-- A store of tokens, as contracts see it, and what it keeps
use Rattle.std.specs.Prelude.{ℕ, List, map}
use Rattle.rod_store.specs.declared.kept.Kept.{Kept}
use Rattle.rod_store.specs.Kept.{kept_with}

pub record Store (T : Type 0) : Type 0 where
  pub unit : ℕ
  -- each at the place of its serial
  pub tokens : List (Kept T)
  -- so many more find room
  pub spare : ℕ

-- the store with other values
abbrev pub store_with : {K T : Type 0} → (K → T) → Store K → Store T
store_with f s = record { unit = s.unit; tokens = map (kept_with f) s.tokens; spare = s.spare }
