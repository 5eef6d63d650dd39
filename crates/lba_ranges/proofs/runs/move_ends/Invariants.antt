use Rattle.std.proofs.Common.{◌≡◌, ◌++◌, take, drop}
use Rattle.std.specs.Prelude.{map}
use Rattle.lba_ranges.specs.inner.Runs.{later}
use Rattle.lba_ranges.proofs.runs.move_ends.Given as goal

abbrev pub invariant-loop-run : goal.invariant-loop-run
invariant-loop-run l = l.run-items ≡ map (later l.by) (take l.run-index l.fn.runs.items) ++ drop l.run-index l.fn.runs.items
