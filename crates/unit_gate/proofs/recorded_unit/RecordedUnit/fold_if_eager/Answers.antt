use Rattle.std.proofs.Common.{ap, arith, inr}
use Rattle.unit_gate.specs.Recorded.{RecordedState, StandsFor, facts}
use Rattle.unit_gate.specs.inner.Keeping.{state_of}
use Rattle.unit_gate.proofs.Standing.{rose-counted}
use Rattle.unit_gate.proofs.recorded_unit.RecordedUnit.fold_if_eager.Goals as goal

pub returns-in-OutOfMemory-clause-stands : goal.returns-in-OutOfMemory-clause-stands
returns-in-OutOfMemory-clause-stands g c = λ h is.
    let s = state_of (facts g.R.Recorder.recorded g.R.Recorder.record_faults g.R.Recorder.absent g.R.Recorder.front) c.self.inside.unit c.self.inside.recorder c.self.inside.opening.value c.self.inside.folded_then c.self.inside.late in
    let at : StandsFor s h = rw c.self.view_is (c.fold.ensures.stands h is) in
    record { unit = at.unit; rising = at.rising; recorded = at.recorded }

pub returns-in-OutOfMemory-clause-saved : goal.returns-in-OutOfMemory-clause-saved
returns-in-OutOfMemory-clause-saved g c = λ eager there.
    let late = ap (λ (s : RecordedState). s.late) c.self.view_is in
    let above = c.fold.ensures.marks 2 in
    inr (inr (rose-counted c.args.self.now.late c.self.inside.late c.saturating_add-self-inside.result (omega (arith, late, above)) c.saturating_add-self-inside.ensures))
