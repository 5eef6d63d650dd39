use Rattle.std.proofs.Common.{◌≡◌, take, map}
use Rattle.unit_gate.specs.Recorded.{facts}
use Rattle.nexus.specs.Opening.{stored, next_nexus}
use Rattle.nexus.proofs.resuming.next_nexus.Given as goal

abbrev pub invariant-loop-index : goal.invariant-loop-index
invariant-loop-index g l =
    l.next ≡ next_nexus (take l.index (map (stored (facts g.R.Recorder.recorded g.R.Recorder.record_faults g.R.Recorder.absent g.R.Recorder.front)) l.stores.items))
