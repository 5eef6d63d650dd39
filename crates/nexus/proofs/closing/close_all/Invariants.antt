use Rattle.std.proofs.Common.{◌≡◌, length, vec_capacity}
use Rattle.std.specs.Vec.Iter.{into_iter_items, into_iter_len}
use Rattle.unit_gate.specs.Recorded.{facts}
use Rattle.nexus.specs.inner.Closing.{ClosedSoFar}
use Rattle.nexus.proofs.closing.close_all.Given as goal

abbrev pub invariant-loop-held : goal.invariant-loop-held
invariant-loop-held g l =
    ClosedSoFar (facts g.R.Recorder.recorded g.R.Recorder.record_faults g.R.Recorder.absent g.R.Recorder.front) g.R.Recorder.fits
    (into_iter_items l.initial.seats) (into_iter_items l.seats) (into_iter_items l.initial.turns) (into_iter_items l.turns) (into_iter_items l.gates) l.units.items (vec_capacity l.initial.units) (vec_capacity l.units)
    × (into_iter_len l.turns ≡ length (into_iter_items l.turns)) × (into_iter_len l.seats ≡ length (into_iter_items l.seats)) × (into_iter_len l.gates ≡ length (into_iter_items l.gates))

abbrev pub decreases-loop-held : goal.decreases-loop-held
decreases-loop-held g l = length (into_iter_items l.turns)
