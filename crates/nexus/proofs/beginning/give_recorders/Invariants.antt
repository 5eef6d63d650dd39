use Rattle.std.proofs.Common.{◌≡◌, vec_capacity}
use Rattle.std.specs.Vec.Iter.{into_iter_items}
use Rattle.cm_history.specs.declared.act.Entry.{Entry}
use Rattle.unit_gate.specs.Recorded.{facts}
use Rattle.nexus.specs.inner.Building.{NewSoFar}
use Rattle.nexus.proofs.Opening.{fresh}
use Rattle.nexus.proofs.beginning.give_recorders.Given as goal

abbrev pub invariant-loop : goal.invariant-loop
invariant-loop g l =
    NewSoFar (fresh (facts g.R.Recorder.recorded g.R.Recorder.record_faults g.R.Recorder.absent g.R.Recorder.front)) (λ r. (e : Entry) → g.R.Recorder.fits r e) l.config l.fn.recorders.items (into_iter_items l.recorders) (into_iter_items l.units) l.begun.items l.counter
    × (vec_capacity l.begun ≡ vec_capacity l.initial.begun)
