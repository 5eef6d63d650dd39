use Rattle.std.proofs.Common.{◌≡◌, ◌*◌, ◌≤◌, take}
use Rattle.lba_ranges.specs.Denoted.{total}
use Rattle.copy_plan.proofs.extents.total.Given as goal

abbrev pub invariant-loop-extent : goal.invariant-loop-extent
invariant-loop-extent l =
    (l.blocks ≡ total (take l.extent-index l.extents))
    × (l.blocks ≤ l.extent-index * 4_294_967_295)
