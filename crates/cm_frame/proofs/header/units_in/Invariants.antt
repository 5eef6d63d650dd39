use Rattle.std.proofs.Common.{◌≡◌, ◌+◌, ◌*◌, ◌-◌, ◌++◌, drop}
use Rattle.cm_frame.specs.Reading.{units_in}
use Rattle.cm_frame.proofs.header.units_in.Given as goal

abbrev pub invariant-loop-index : goal.invariant-loop-index
invariant-loop-index l = l.units ++ units_in (l.count - l.index) (drop (42 + 32 * l.index) l.bytes) ≡ units_in l.count (drop 42 l.bytes)
