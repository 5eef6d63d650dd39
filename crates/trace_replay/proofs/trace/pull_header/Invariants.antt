use Rattle.std.proofs.Common.{◌≡◌, ◌-◌, length}
use Rattle.std.specs.Io.KnownBytes.{Consumes}
use Rattle.trace_replay.proofs.trace.pull_header.Given as goal

abbrev pub invariant-loop-config : goal.invariant-loop-config
invariant-loop-config g l =
    Consumes (g.I.Source.left l.initial.input) (g.I.Source.left l.input) l.waits
    × (g.I.Source.read_faults l.input ≡ g.I.Source.read_faults l.initial.input)

abbrev pub decreases-loop-config : goal.decreases-loop-config
decreases-loop-config g l = 554 - length l.waits
