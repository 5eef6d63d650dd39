use Rattle.std.proofs.Common.{◌≡◌, ◌++◌, ◌-◌, ◌≤◌, length, drop, List, ℕ}
use Rattle.std.specs.Io.KnownBytes.{Appends}
use Rattle.cm_base.specs.Outside.{StaysTold}
use Rattle.cm_base.proofs.sink.push_from.Given as goal

abbrev pub invariant-loop-at : goal.invariant-loop-at
invariant-loop-at g l =
    (l.initial.at ≤ l.at) × (l.at ≤ length l.bytes)
    × (g.O.Sink.write_faults l.sink ≡ g.O.Sink.write_faults l.initial.sink)
    × StaysTold (g.O.Sink.taken l.initial.sink) (g.O.Sink.taken l.sink)
    × (g.O.Sink.unpushed l.sink ≡ g.O.Sink.unpushed l.initial.sink)
    × ((front : List ℕ) × (front ++ drop l.at l.bytes ≡ drop l.initial.at l.bytes)
    × Appends (g.O.Sink.taken l.initial.sink) (g.O.Sink.taken l.sink) front)

abbrev pub decreases-loop-at : goal.decreases-loop-at
decreases-loop-at g l = length l.bytes - l.at
