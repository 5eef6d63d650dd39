use Rattle.std.proofs.Common.{◌≡◌, ◌*◌, ◌-◌, ◌++◌, drop}
use Rattle.copy_plan.specs.Reading.{extents_in}
use Rattle.copy_plan.proofs.reading.extents_in.Given as goal

abbrev pub invariant-loop-index : goal.invariant-loop-index
invariant-loop-index l = l.extents.items ++ extents_in (l.count - l.index) (drop (12 * l.index) l.bytes) ≡ extents_in l.count l.bytes
