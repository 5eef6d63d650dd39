use Rattle.std.proofs.Common.{◌≡◌, length, vec_capacity}
use Rattle.nexus.specs.inner.Closing.{LeftSoFar}
use Rattle.nexus.proofs.closing.leave_all.Given as goal

abbrev pub invariant-loop-held : goal.invariant-loop-held
invariant-loop-held g l = record { left : LeftSoFar l.initial.seats.items l.seats.items l.initial.turns.items l.turns.items; room : vec_capacity l.turns ≡ vec_capacity l.initial.turns }

abbrev pub decreases-loop-held : goal.decreases-loop-held
decreases-loop-held g l = length l.turns.items
