-- Runs of blocks that are to be written, and what is kept where extents begin
use Rattle.std.specs.Prelude.{◌≡◌, ℕ, ◌+◌, ◌-◌, ◌<◌, ◌≤◌, List, None, [], ◌∷◌, ◌++◌, Some, IsSome, slice_get, Bool, true, false}
use Rattle.lba_ranges.specs.HeldBlocks.{filled, IsFull}
use Rattle.lba_ranges.specs.Writings.{Held}
use Rattle.lba_ranges.specs.declared.fill.Piece.{Piece}
use Rattle.lba_ranges.specs.declared.fill.Fill.{Fill}
use Rattle.lba_ranges.specs.declared.fill.Fill.TheVariants.{Hole, Bytes}
use Rattle.lba_ranges.specs.declared.ranges.Range.{Range}
use Rattle.lun_extents.specs.declared.runs.Filling.{Filling}
use Rattle.lun_extents.specs.Extents.{Extents, stored, held_from, held_in}

-- where the runs are
abbrev pub ranges_of : List Filling → List Range
ranges_of [] = []
ranges_of (r ∷ rs) = r.range ∷ ranges_of rs

-- what their blocks are to hold, in order
abbrev pub items_of_runs : ℕ → List Filling → List Held
items_of_runs size [] = []
items_of_runs size (r ∷ rs) = filled size r.range.count r.fill ++ items_of_runs size rs

-- the blocks are to be mapped
abbrev pub is_mapped : Fill → Bool
is_mapped Hole = false
is_mapped (Bytes bytes) = true

-- each run has blocks of the unit, and their bytes
abbrev pub AreRuns : ℕ → ℕ → List Filling → Type 0
AreRuns blocks size [] = Unit {0}
AreRuns blocks size (r ∷ rs) = (1 ≤ r.range.count) × (r.range.lba + r.range.count ≤ blocks) × IsFull size r.range.count r.fill × AreRuns blocks size rs

-- an extent begins at the start and at the end of each range
pub record IsSplitAt (entries : List (ℕ × Piece)) (ranges : List Range) : Type 0 where
  pub start : (k : ℕ) (range : Range) → slice_get ranges k ≡ Some range → IsSome (stored entries range.lba)
  pub end : (k : ℕ) (range : Range) → slice_get ranges k ≡ Some range → IsSome (stored entries (range.lba + range.count))

-- each block of a unit holds what it held
pub record HoldsSame (was now : Extents) : Type 0 where
  pub blocks : now.blocks ≡ was.blocks
  pub block_length : now.block_length ≡ was.block_length
  pub held : (block : ℕ) → held_in now.block_length now.entries block ≡ held_in was.block_length was.entries block

-- no extent begins within a run, and none goes on behind it
pub record IsAlone (entries : List (ℕ × Piece)) (lba count : ℕ) : Type 0 where
  pub inside : (block : ℕ) → lba < block → block < lba + count → stored entries block ≡ None
  pub ended : (size i : ℕ) → held_from size (stored entries) (lba + count - 1) (1 + i) ≡ None

-- nothing stands in a row of blocks: no extent begins there, and none goes on there
pub record IsClear (entries : List (ℕ × Piece)) (lba count : ℕ) : Type 0 where
  pub none : (block : ℕ) → lba ≤ block → block < lba + count → stored entries block ≡ None
  pub past : (size block i : ℕ) → lba ≤ block → block < lba + count → held_from size (stored entries) block i ≡ None
