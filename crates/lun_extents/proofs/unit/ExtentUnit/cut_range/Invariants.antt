use Rattle.std.proofs.Common.{◌≡◌, ◌++◌, ◌≤◌, ◌-◌}
use Rattle.std.specs.Prelude.{map}
use Rattle.lba_ranges.specs.Denoted.{row}
use Rattle.lun_extents.specs.Extents.{held_in}
use Rattle.lun_extents.proofs.unit.ExtentUnit.cut_range.Given as goal

abbrev pub invariant-loop-done : goal.invariant-loop-done
invariant-loop-done l =
    (l.done ≤ l.range.count)
    × (l.list.block_length ≡ l.self-inside.block_length)
    × (l.list.items ≡ l.initial.list.items ++ map (held_in l.self-inside.block_length l.self-inside.extents.entries) (row l.range.lba l.done))

abbrev pub decreases-loop-done : goal.decreases-loop-done
decreases-loop-done l = l.range.count - l.done
