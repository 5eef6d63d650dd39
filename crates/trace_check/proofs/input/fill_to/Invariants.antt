use Rattle.std.proofs.Common.{◌≡◌, ℕ, ◌-◌, List, length}
use Rattle.std.specs.Prelude.{Option}
use Rattle.std.specs.Io.KnownBytes.{Consumes}
use Rattle.trace_check.proofs.input.fill_to.Given as goal

abbrev pub invariant-loop-waits : goal.invariant-loop-waits
invariant-loop-waits g l =
    ((left : Option (List ℕ)) → Consumes left (g.I.Source.left l.initial.input) l.initial.waits → Consumes left (g.I.Source.left l.input) l.waits)
    × (g.I.Source.read_faults l.input ≡ g.I.Source.read_faults l.initial.input)

abbrev pub decreases-loop-waits : goal.decreases-loop-waits
decreases-loop-waits g l = l.count - length l.waits
