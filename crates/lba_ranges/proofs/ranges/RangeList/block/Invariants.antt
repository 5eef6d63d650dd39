use Rattle.std.proofs.Common.{◌≡◌, ◌<◌, length, get_or, drop}
use Rattle.lba_ranges.specs.Denoted.{blocks_of}
use Rattle.lba_ranges.proofs.ranges.RangeList.block.Given as goal

abbrev pub invariant-loop-range : goal.invariant-loop-range
invariant-loop-range l =
    (get_or (blocks_of l.range-items) l.place 0 ≡ get_or (blocks_of (drop l.range-index l.range-items)) l.left 0)
    × (l.left < length (blocks_of (drop l.range-index l.range-items)))
