use Rattle.std.proofs.Common.{map}
use Rattle.unit_gate.specs.Recorded.{facts}
use Rattle.nexus.specs.Opening.{stored}
use Rattle.nexus.specs.inner.Building.{GoneOnSoFar}
use Rattle.nexus.proofs.resuming.units_of.Given as goal

abbrev pub invariant-loop-number : goal.invariant-loop-number
invariant-loop-number g l =
    GoneOnSoFar l.config (map (stored (facts g.R.Recorder.recorded g.R.Recorder.record_faults g.R.Recorder.absent g.R.Recorder.front)) l.stores.items) l.units.items l.number
