use Rattle.std.proofs.Common.{◌≡◌, ℕ, ◌+◌, ◌≤◌, ◌++◌, length, take, drop, IsTrue}
use Rattle.lba_ranges.specs.Denoted.{blocks_of, is_within}
use Rattle.lba_ranges.proofs.ranges.RangeList.slice.Given as goal

abbrev pub invariant-loop-range : goal.invariant-loop-range
invariant-loop-range l =
    let rest = blocks_of (drop l.range-index l.range-items) in
    (blocks_of l.part ++ take l.left (drop l.skip rest) ≡ take l.count (drop l.from (blocks_of l.range-items)))
    × (l.skip + l.left ≤ length rest)
    × (length (blocks_of l.part) + l.left ≡ l.count)
    × (length l.part ≤ l.range-index)
    × ((blocks : ℕ) → IsTrue (is_within blocks l.range-items) → IsTrue (is_within blocks l.part))
