use Rattle.std.proofs.Common.{vec_capacity}
use Rattle.std.specs.Vec.Iter.{into_iter_items}
use Rattle.nexus.specs.inner.Building.{FilledSoFar, entries_begun}
use Rattle.nexus.proofs.beginning.VacantWorld.fill.Given as goal

abbrev pub ghost-fill_gate : goal.ghost-fill_gate
ghost-fill_gate g a = entries_begun a.begun

abbrev pub invariant-loop : goal.invariant-loop
invariant-loop g l =
    FilledSoFar l.fn.units.items (into_iter_items l.units) (into_iter_items l.vacant) l.gates.items l.seats.items l.seqs.items l.counter (vec_capacity l.gates) (vec_capacity l.seats) (vec_capacity l.seqs)
