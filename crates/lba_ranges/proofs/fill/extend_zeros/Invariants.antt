use Rattle.std.proofs.Common.{◌≡◌, ◌-◌, ◌≤◌, ◌++◌}
use Rattle.cm_base.specs.Fields.{zeros}
use Rattle.lba_ranges.proofs.fill.extend_zeros.Given as goal

abbrev pub invariant-loop-left : goal.invariant-loop-left
invariant-loop-left l = (l.into ≡ l.initial.into ++ zeros (l.count - l.left)) × (l.left ≤ l.count)

abbrev pub decreases-loop-left : goal.decreases-loop-left
decreases-loop-left l = l.left
