use Rattle.std.proofs.Common.{◌≡◌, vec_capacity}
use Rattle.std.specs.Vec.Iter.{into_iter_items}
use Rattle.cm_history.specs.declared.act.Entry.{Entry}
use Rattle.unit_gate.specs.Recorded.{facts}
use Rattle.nexus.specs.declared.resuming.Store.{Store}
use Rattle.nexus.specs.Opening.{stored}
use Rattle.nexus.specs.inner.Building.{RecordersSoFar}
use Rattle.nexus.proofs.resuming.give_stores.Given as goal

abbrev pub invariant-loop : goal.invariant-loop
invariant-loop g l =
    RecordersSoFar (stored (facts g.R.Recorder.recorded g.R.Recorder.record_faults g.R.Recorder.absent g.R.Recorder.front)) (λ s. (e : Entry) → g.R.Recorder.fits s.recorder e) l.config l.fn.stores.items (into_iter_items l.stores)
    (into_iter_items l.units) l.begun.items l.counter
    × (vec_capacity l.begun ≡ vec_capacity l.initial.begun)
