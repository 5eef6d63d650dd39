use Rattle.std.proofs.Common.{◌≡◌, ◌*◌, ◌≤◌, take}
use Rattle.lba_ranges.specs.Denoted.{total}
use Rattle.lba_ranges.proofs.ranges.RangeList.total.Given as goal

abbrev pub invariant-loop-range : goal.invariant-loop-range
invariant-loop-range l =
    (l.blocks ≡ total (take l.range-index l.range-items))
    × (l.blocks ≤ l.range-index * 4_294_967_295)
