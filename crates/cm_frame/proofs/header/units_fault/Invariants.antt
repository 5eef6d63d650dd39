use Rattle.std.proofs.Common.{◌≡◌, ◌+◌, ◌*◌, ◌-◌, drop}
use Rattle.cm_frame.specs.Reading.{units_fault}
use Rattle.cm_frame.proofs.header.units_fault.Given as goal

abbrev pub invariant-loop-index : goal.invariant-loop-index
invariant-loop-index l =
    units_fault (l.count - l.index) (42 + 32 * l.index) (drop (42 + 32 * l.index) l.bytes) ≡ units_fault l.count 42 (drop 42 l.bytes)
