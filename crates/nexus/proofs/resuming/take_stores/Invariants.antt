use Rattle.std.proofs.Common.{◌≡◌, length, vec_capacity}
use Rattle.std.specs.Vec.Iter.{into_iter_items, into_iter_len}
use Rattle.unit_gate.specs.Recorded.{facts}
use Rattle.nexus.specs.Opening.{stored}
use Rattle.nexus.specs.inner.Building.{GivenBackSoFar, store_in}
use Rattle.nexus.proofs.resuming.take_stores.Given as goal

abbrev pub invariant-loop-begun : goal.invariant-loop-begun
invariant-loop-begun g l =
    GivenBackSoFar (stored (facts g.R.Recorder.recorded g.R.Recorder.record_faults g.R.Recorder.absent g.R.Recorder.front)) store_in l.fn.units.items (into_iter_items l.units) l.stores.items (vec_capacity l.stores)
    × (into_iter_len l.units ≡ length (into_iter_items l.units))

abbrev pub decreases-loop-begun : goal.decreases-loop-begun
decreases-loop-begun g l = length (into_iter_items l.units)
