use Rattle.std.proofs.Common.{◌≡◌, ◌≤◌, ◌-◌}
use Rattle.lba_ranges.specs.Denoted.{row}
use Rattle.lba_ranges.specs.Writings.{mapped_among}
use Rattle.lun_extents.specs.Extents.{held_in}
use Rattle.lun_extents.proofs.unit.ExtentUnitBlocks.mapped_in.Given as goal

abbrev pub invariant-loop-at : goal.invariant-loop-at
invariant-loop-at l =
    (l.fn.range.lba ≤ l.at) × (l.at ≤ l.end) × (l.blocks ≤ l.at - l.fn.range.lba)
    × (l.blocks ≡ mapped_among (held_in l.self-inside.block_length l.self-inside.extents.entries) (row l.fn.range.lba (l.at - l.fn.range.lba)))

abbrev pub decreases-loop-at : goal.decreases-loop-at
decreases-loop-at l = l.end - l.at
