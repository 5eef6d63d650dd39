use Rattle.std.proofs.Common.{◌≡◌, ℕ, false, ◌++◌}
use Rattle.lba_ranges.specs.Denoted.{blocks_of, is_overlapping}
use Rattle.lba_ranges.specs.Writings.{paired, after}
use Rattle.lun_extents.specs.Extents.{held_in}
use Rattle.lun_extents.specs.inner.Runs.{IsSplitAt, AreRuns, ranges_of, items_of_runs}
use Rattle.lun_extents.proofs.unit.ExtentUnit.set_runs.Given as goal

abbrev pub invariant-loop-run : goal.invariant-loop-run
invariant-loop-run l =
    (goal.iterator-loop-run).can_next l.run-iterator
    × (goal.iterator-loop-run).is_finite l.run-iterator
    × (l.self.blocks ≡ l.initial.self.blocks) × (l.self.block_length ≡ l.initial.self.block_length)
    × ((b : ℕ) → held_in l.self.block_length l.self.entries b
    ≡ after (paired (blocks_of (ranges_of l.yielded)) (items_of_runs l.initial.self.block_length l.yielded)) b (held_in l.initial.self.block_length l.initial.self.entries b))
    × IsSplitAt l.self.entries (ranges_of l.run-iterator.rest.items)
    × AreRuns l.self.blocks l.self.block_length l.run-iterator.rest.items
    × (is_overlapping (ranges_of l.run-iterator.rest.items) ≡ false)
    × (l.yielded ++ l.run-iterator.rest.items ≡ l.fn.runs.items)
