use Rattle.std.proofs.Common.{◌≡◌, take}
use Rattle.lba_ranges.specs.Denoted.{blocks_of, total}
use Rattle.lun_extents.specs.inner.Runs.{ranges_of, items_of_runs, AreRuns}
use Rattle.lun_extents.proofs.runs.runs_of.Given as goal

abbrev pub invariant-loop-index : goal.invariant-loop-index
invariant-loop-index l =
    (l.from ≡ total (take l.index l.ranges))
    × (blocks_of (ranges_of l.runs.items) ≡ blocks_of (take l.index l.ranges))
    × (items_of_runs l.list.block_length l.runs.items ≡ take l.from l.list.items)
    × AreRuns l.blocks l.list.block_length l.runs.items
