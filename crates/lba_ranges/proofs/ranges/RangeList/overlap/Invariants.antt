use Rattle.std.proofs.Common.{◌≡◌, drop}
use Rattle.lba_ranges.specs.Denoted.{is_overlapping}
use Rattle.lba_ranges.proofs.ranges.RangeList.overlap.Given as goal

abbrev pub invariant-loop-index : goal.invariant-loop-index
invariant-loop-index l =
    is_overlapping l.ranges ≡ is_overlapping (drop l.index l.ranges)
