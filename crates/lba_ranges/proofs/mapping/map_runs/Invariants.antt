use Rattle.std.proofs.Common.{◌≡◌, ◌-◌, ◌≤◌, ◌++◌, length}
use Rattle.lba_ranges.specs.Status.{map_runs}
use Rattle.lba_ranges.proofs.mapping.map_runs.Given as goal

abbrev pub invariant-loop-block : goal.invariant-loop-block
invariant-loop-block g l =
    let held = g.B.Blocks.holds l.unit in
    (l.list ++ map_runs held (64 - length l.list) l.block (l.blocks - l.block) ≡ map_runs held 64 l.lba (l.blocks - l.lba))
    × (l.block ≤ l.blocks) × (length l.list ≤ 64)

abbrev pub decreases-loop-block : goal.decreases-loop-block
decreases-loop-block g l = l.blocks - l.block
