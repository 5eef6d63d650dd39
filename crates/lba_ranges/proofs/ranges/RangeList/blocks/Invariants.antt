use Rattle.std.proofs.Common.{◌≡◌, take}
use Rattle.lba_ranges.specs.Denoted.{blocks_of}
use Rattle.lba_ranges.proofs.ranges.RangeList.blocks.Given as goal

abbrev pub invariant-loop-range : goal.invariant-loop-range
invariant-loop-range l = l.blocks.items ≡ blocks_of (take l.range-index l.range-items)
