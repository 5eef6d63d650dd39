use Rattle.std.proofs.Common.{refl}
use Rattle.unit_gate.specs.Recorded.{facts}
use Rattle.unit_gate.specs.inner.Keeping.{state_of}
use Rattle.unit_gate.proofs.Standing.{stands-folded}
use Rattle.unit_gate.proofs.recorded_unit.RecordedUnit.fold.Goals as goal

pub returns-clause-stands : goal.returns-clause-stands
returns-clause-stands g c =
    let s = state_of (facts g.R.Recorder.recorded g.R.Recorder.record_faults g.R.Recorder.absent g.R.Recorder.front) c.self.inside.unit c.self.inside.recorder c.self.inside.opening.value c.self.inside.folded_then c.self.inside.late in
    let new = state_of (facts g.R.Recorder.recorded g.R.Recorder.record_faults g.R.Recorder.absent g.R.Recorder.front) c.fold.new.self c.fold.new.recorder c.self.inside.opening.value c.self.inside.folded_then c.self.inside.late in
    rw (← c.self.view_is) (λ h is. stands-folded s new h is (c.fold.ensures.stands h is.unit) refl (c.fold.ensures.told h s.opening.recorded is.unit is.recorded))
