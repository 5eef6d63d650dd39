use Rattle.std.proofs.Common.{◌≡◌, sym, ap, ◌∙◌, refl}
use Rattle.unit_core.proofs.PublicLaws.{first-any}
use Rattle.unit_gate.specs.Recorded.{facts, without_last}
use Rattle.unit_gate.specs.inner.Keeping.{state_of}
use Rattle.unit_gate.proofs.Standing.{stands-over}
use Rattle.unit_gate.proofs.recorded_unit.RecordedUnit.over.Goals as goal

pub invariant_of-result : goal.invariant_of-result
invariant_of-result g c =
    let facts_of = facts g.R.Recorder.recorded g.R.Recorder.record_faults g.R.Recorder.absent g.R.Recorder.front in
    let s = state_of facts_of c.args.unit c.args.recorder c.of-opening.result.value c.folded-folded_then.result 0 in
    let opening : s.opening ≡ without_last s.unit.folded s.recorder =
    ap (λ n. without_last n (facts_of c.of-opening.result.value)) c.folded-folded_then.ensures ∙ ap (λ r. without_last c.args.unit.folded (facts_of r)) c.of-opening.ensures in
    record {
      first = first-any (g.R.Recorder.fits c.args.recorder) c.args.unit.kept c.requires.fits;
      absent = ap (λ r. g.R.Recorder.absent r) (sym c.of-opening.ensures);
      front = ap (λ r. g.R.Recorder.front r) (sym c.of-opening.ensures);
      unfolded = λ absent. sym c.folded-folded_then.ensures;
      history = c.requires.history.0;
      stands = stands-over s c.requires.history.0 c.requires.history.1 opening;
    }

pub returns-clause-stands : goal.returns-clause-stands
returns-clause-stands g c =
    let facts_of = facts g.R.Recorder.recorded g.R.Recorder.record_faults g.R.Recorder.absent g.R.Recorder.front in
    let s = state_of facts_of c.args.unit c.args.recorder c.of-opening.result.value c.folded-folded_then.result 0 in
    let opening : s.opening ≡ without_last s.unit.folded s.recorder =
    ap (λ n. without_last n (facts_of c.of-opening.result.value)) c.folded-folded_then.ensures ∙ ap (λ r. without_last c.args.unit.folded (facts_of r)) c.of-opening.ensures in
    λ h is. stands-over s h is opening

pub returns-clause-kin : goal.returns-clause-kin
returns-clause-kin g c =
    let facts_of = facts g.R.Recorder.recorded g.R.Recorder.record_faults g.R.Recorder.absent g.R.Recorder.front in
    ap (λ n. record { config = c.args.unit.config; unit = c.args.unit.unit; opening = without_last n (facts_of c.of-opening.result.value); folded = n }) c.folded-folded_then.ensures
    ∙ ap (λ r. record { config = c.args.unit.config; unit = c.args.unit.unit; opening = without_last c.args.unit.folded (facts_of r); folded = c.args.unit.folded }) c.of-opening.ensures

pub returns-clause-marks : goal.returns-clause-marks
returns-clause-marks g c = refl
