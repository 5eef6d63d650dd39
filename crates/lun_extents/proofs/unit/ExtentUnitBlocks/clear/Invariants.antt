use Rattle.std.proofs.Common.{◌≡◌, ℕ, take}
use Rattle.lba_ranges.specs.Denoted.{blocks_of}
use Rattle.lba_ranges.specs.Writings.{unmapped, after}
use Rattle.lun_extents.specs.Extents.{held_in}
use Rattle.lun_extents.specs.inner.Runs.{IsSplitAt}
use Rattle.lun_extents.proofs.unit.ExtentUnitBlocks.clear.Given as goal

abbrev pub invariant-loop-index : goal.invariant-loop-index
invariant-loop-index l =
    (l.self.blocks ≡ l.initial.self.blocks) × (l.self.block_length ≡ l.initial.self.block_length)
    × ((b : ℕ) → held_in l.self.block_length l.self.entries b
    ≡ after (unmapped (blocks_of (take l.index l.ranges))) b (held_in l.initial.self.block_length l.initial.self.entries b))
    × IsSplitAt l.self.entries l.ranges
