-- Blocks that are kept in extents
use Rattle.std.specs.Prelude.{ℕ, zero, suc, List, Option, Some, None}
use Rattle.std.specs.Map.{lookup}
use Rattle.std.specs.Ordering.{nat_cmp}
use Rattle.std.specs.BTreeMap.{is_at}
use Rattle.lba_ranges.specs.HeldBlocks.{filled, held_at}
use Rattle.lba_ranges.specs.Writings.{Held}
use Rattle.lba_ranges.specs.declared.fill.Piece.{Piece}

-- how many blocks there are, of how many bytes, and the extents by their first blocks, in order
pub record Extents : Type 0 where
  pub blocks : ℕ
  pub block_length : ℕ
  pub entries : List (ℕ × Piece)

-- the extent that begins at a block, if there is one
abbrev pub stored : List (ℕ × Piece) → ℕ → Option Piece
stored entries block = lookup (is_at (nat_cmp block)) entries

-- what stands at a place of an extent, or `below` where there is no extent
abbrev pub held_or : ℕ → ℕ → Option Piece → Held → Held
held_or size place None below = below
held_or size place (Some extent) below = held_at (filled size extent.count extent.fill) place

-- what stands so many blocks past a block, by the nearest extent at it or below it
abbrev pub held_from : ℕ → (ℕ → Option Piece) → ℕ → ℕ → Held
held_from size starts zero place = held_or size place (starts 0) None
held_from size starts (suc block) place = held_or size place (starts (suc block)) (held_from size starts block (suc place))

-- what a block holds: the nearest extent at it or below it decides
abbrev pub held_in : ℕ → List (ℕ × Piece) → ℕ → Held
held_in size entries block = held_from size (stored entries) block 0
