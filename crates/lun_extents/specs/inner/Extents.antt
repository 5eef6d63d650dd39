-- Blocks that are kept in extents
use Rattle.std.specs.Prelude.{◌≡◌, ℕ, ◌+◌, ◌≤◌, List, Option, Some, None}
use Rattle.lba_ranges.specs.HeldBlocks.{IsFull}
use Rattle.lba_ranges.specs.declared.fill.Piece.{Piece}
use Rattle.lba_ranges.specs.declared.fill.Fill.TheVariants.{Hole}
use Rattle.lun_extents.specs.Extents.{stored}

-- each extent has the bytes of its blocks, and ends within the unit
pub record AreExtents (blocks size : ℕ) (entries : List (ℕ × Piece)) : Type 0 where
  pub full : (block : ℕ) (extent : Piece) → stored entries block ≡ Some extent → IsFull size extent.count extent.fill
  pub within : (block : ℕ) (extent : Piece) → stored entries block ≡ Some extent → block + extent.count ≤ blocks

-- an extent without blocks in place of an extent
abbrev pub emptied : Option Piece → Option Piece
emptied None = None
emptied (Some extent) = Some record { count = 0; fill = Hole }
