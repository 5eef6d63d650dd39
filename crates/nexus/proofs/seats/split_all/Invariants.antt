use Rattle.std.proofs.Common.{vec_capacity}
use Rattle.nexus.specs.inner.Seats.{SplitSoFar}
use Rattle.nexus.proofs.seats.split_all.Given as goal

abbrev pub invariant-loop-index : goal.invariant-loop-index
invariant-loop-index g l = SplitSoFar l.initial.seats.items l.seats.items l.fresh.items l.index (vec_capacity l.initial.fresh) (vec_capacity l.fresh)
