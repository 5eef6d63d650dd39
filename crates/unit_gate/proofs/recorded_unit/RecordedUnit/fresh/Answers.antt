use Rattle.std.proofs.Common.{◌≡◌, [], ◌∷◌, sym, ap, ◌∙◌}
use Rattle.unit_core.proofs.PublicLaws.{first-any}
use Rattle.unit_gate.specs.Recorded.{facts, without_last}
use Rattle.unit_gate.specs.inner.Keeping.{state_of}
use Rattle.unit_gate.proofs.Standing.{stands-first, without-none}
use Rattle.unit_gate.proofs.recorded_unit.RecordedUnit.fresh.Goals as goal

pub invariant_of-result : goal.invariant_of-result
invariant_of-result g c =
    let facts_of = facts g.R.Recorder.recorded g.R.Recorder.record_faults g.R.Recorder.absent g.R.Recorder.front in
    let s = state_of facts_of c.args.unit c.args.recorder c.of-opening.result.value 0 0 in
    let same : s.recorder ≡ s.opening = sym (without-none (facts_of c.args.recorder)) ∙ ap (λ r. without_last 0 (facts_of r)) (sym c.of-opening.ensures) in
    record {
      first = first-any (g.R.Recorder.fits c.args.recorder) c.args.unit.kept c.requires.fits;
      absent = ap (λ r. g.R.Recorder.absent r) (sym c.of-opening.ensures);
      front = ap (λ r. g.R.Recorder.front r) (sym c.of-opening.ensures);
      unfolded = λ absent. c.requires.folded;
      history = [];
      stands = stands-first s c.requires.stands same c.requires.folded;
    }

pub returns-clause-stands : goal.returns-clause-stands
returns-clause-stands g c =
    let facts_of = facts g.R.Recorder.recorded g.R.Recorder.record_faults g.R.Recorder.absent g.R.Recorder.front in
    let s = state_of facts_of c.args.unit c.args.recorder c.of-opening.result.value 0 0 in
    let same : s.recorder ≡ s.opening = sym (without-none (facts_of c.args.recorder)) ∙ ap (λ r. without_last 0 (facts_of r)) (sym c.of-opening.ensures) in
    stands-first s c.requires.stands same c.requires.folded

pub returns-clause-kin : goal.returns-clause-kin
returns-clause-kin g c =
    let facts_of = facts g.R.Recorder.recorded g.R.Recorder.record_faults g.R.Recorder.absent g.R.Recorder.front in
    ap (λ r. record { config = c.args.unit.config; unit = c.args.unit.unit; opening = without_last 0 (facts_of r); folded = 0 }) c.of-opening.ensures
    ∙ ap (λ o. record { config = c.args.unit.config; unit = c.args.unit.unit; opening = o; folded = 0 }) (without-none (facts_of c.args.recorder))

pub returns-clause-marks : goal.returns-clause-marks
returns-clause-marks g c = ap (λ n. g.R.Recorder.record_faults c.args.recorder ∷ n ∷ 0 ∷ []) c.requires.folded
