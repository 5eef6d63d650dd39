use Rattle.std.proofs.Common.{vec_capacity}
use Rattle.nexus.specs.inner.Closing.{EnteredSoFar}
use Rattle.nexus.proofs.closing.enter_all.Given as goal

abbrev pub invariant-loop-index : goal.invariant-loop-index
invariant-loop-index g l = EnteredSoFar l.initial.seats.items l.seats.items l.turns.items l.index (vec_capacity l.initial.turns) (vec_capacity l.turns)
