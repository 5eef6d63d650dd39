use Rattle.std.proofs.Common.{◌≡◌, ℕ, ◌+◌, ◌-◌, ◌≤◌, ◌++◌}
use Rattle.std.specs.Prelude.{slice_range}
use Rattle.lba_ranges.specs.Denoted.{row, blocks_of}
use Rattle.lun_extents.specs.inner.Runs.{ranges_of, items_of_runs, AreRuns}
use Rattle.lun_extents.proofs.runs.push_runs.Given as goal

abbrev pub invariant-loop-done : goal.invariant-loop-done
invariant-loop-done l =
    (l.done ≤ l.range.count)
    × (blocks_of (ranges_of l.runs.items) ≡ blocks_of (ranges_of l.initial.runs.items) ++ row l.range.lba l.done)
    × (items_of_runs l.list.block_length l.runs.items ≡ items_of_runs l.list.block_length l.initial.runs.items ++ slice_range l.list.items l.from (l.from + l.done))
    × ((blocks : ℕ) → l.range.lba + l.range.count ≤ blocks → AreRuns blocks l.list.block_length l.initial.runs.items → AreRuns blocks l.list.block_length l.runs.items)

abbrev pub decreases-loop-done : goal.decreases-loop-done
decreases-loop-done l = l.range.count - l.done
