use Rattle.std.proofs.Common.{length}
use Rattle.nexus.specs.inner.Seats.{JoinedSoFar}
use Rattle.nexus.proofs.seats.join_all.Given as goal

abbrev pub invariant-loop-seat : goal.invariant-loop-seat
invariant-loop-seat g l = JoinedSoFar l.initial.seats.items l.initial.passed.items l.seats.items l.passed.items

abbrev pub decreases-loop-seat : goal.decreases-loop-seat
decreases-loop-seat g l = length l.passed.items
