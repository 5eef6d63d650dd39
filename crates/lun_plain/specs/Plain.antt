-- Blocks that are kept in a map
use Rattle.std.specs.Prelude.{ℕ, List, Option}
use Rattle.std.specs.Map.{lookup}
use Rattle.std.specs.Ordering.{nat_cmp}
use Rattle.std.specs.BTreeMap.{is_at}

-- how many blocks there are, of how many bytes, and the mapped ones with their bytes, in order
pub record Plain : Type 0 where
  pub blocks : ℕ
  pub block_length : ℕ
  pub entries : List (ℕ × List ℕ)

-- the bytes that stand at a block, if there are any
abbrev pub stored : List (ℕ × List ℕ) → ℕ → Option (List ℕ)
stored entries block = lookup (is_at (nat_cmp block)) entries
