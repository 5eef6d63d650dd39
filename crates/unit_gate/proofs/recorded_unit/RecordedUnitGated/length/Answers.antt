use Rattle.std.proofs.Common.{arith}
use Rattle.unit_gate.specs.Recorded.{facts}
use Rattle.unit_gate.specs.inner.Keeping.{state_of}
use Rattle.unit_gate.proofs.Standing.{stands-long, stands-few}
use Rattle.unit_gate.proofs.recorded_unit.RecordedUnitGated.length.Goals as goal

pub overflow_add-result : goal.overflow_add-result
overflow_add-result g c =
    let s = state_of (facts g.R.Recorder.recorded g.R.Recorder.record_faults g.R.Recorder.absent g.R.Recorder.front) c.self.inside.unit c.self.inside.recorder c.self.inside.opening.value c.self.inside.folded_then c.self.inside.late in
    let h = c.self.invariant.history in
    let stands = c.self.invariant.stands in
    let long = stands-long s h stands in
    let few = stands-few s h stands in
    let last = c.last_stamp-last.ensures.told h stands.unit in
    let low = c.last_stamp-last.type_inv in
    omega (arith, long, few, last, low, c.folded.ensures, c.kept.ensures)
