use Rattle.std.proofs.Common.{◌≡◌, sym, ◌∙◌, false}
use Rattle.unit_gate.specs.Asking.{is_full_at}
use Rattle.unit_gate.specs.Recorded.{kin_of, facts}
use Rattle.unit_gate.specs.inner.Keeping.{state_of}
use Rattle.unit_gate.proofs.Refusing.{clash}
use Rattle.unit_gate.proofs.recorded_unit.RecordedUnit.make_room.Goals as goal

pub returns-then-not-is_full-clause-folded : goal.returns-then-not-is_full-clause-folded
returns-then-not-is_full-clause-folded g c =
    let s = state_of (facts g.R.Recorder.recorded g.R.Recorder.record_faults g.R.Recorder.absent g.R.Recorder.front) c.self.inside.unit c.self.inside.recorder c.self.inside.opening.value c.self.inside.folded_then c.self.inside.late in
    rw (← c.self.view_is) (λ h is full.
    let told : c.is_full.result ≡ is_full_at (kin_of s) h s.unit.folded c.args.asked.now = c.is_full.ensures h is.unit in
    let no : c.is_full.result ≡ false = c.if-not-is_full.true in
    absurd (clash (sym no ∙ told ∙ full)))
