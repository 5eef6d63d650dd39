use Rattle.std.proofs.Common.{◌≡◌, ◌-◌, drop}
use Rattle.lba_ranges.specs.Denoted.{is_overlapping}
use Rattle.copy_plan.proofs.extents.neighbours_meet.Given as goal

abbrev pub invariant-loop-index : goal.invariant-loop-index
invariant-loop-index l = is_overlapping l.sorted ≡ is_overlapping (drop (l.index - 1) l.sorted)
