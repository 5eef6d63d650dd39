use Rattle.std.proofs.Common.{◌≡◌, ◌-◌, ◌≤◌, ◌++◌, length}
use Rattle.cm_history.specs.Blocks.{held}
use Rattle.lba_ranges.specs.Status.{map_runs}
use Rattle.plain_model.proofs.blocks.status.Given as goal

abbrev pub invariant-loop-block : goal.invariant-loop-block
invariant-loop-block l =
    (l.runs ++ map_runs (held l.past) (64 - length l.runs) l.block (l.unit.blocks - l.block) ≡ map_runs (held l.past) 64 l.lba (l.unit.blocks - l.lba))
    × (l.block ≤ l.unit.blocks) × (length l.runs ≤ 64)

abbrev pub decreases-loop-block : goal.decreases-loop-block
decreases-loop-block l = l.unit.blocks - l.block
