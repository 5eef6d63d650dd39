use Rattle.std.proofs.Common.{◌∙◌, ℕ, ap}
use Rattle.std.proofs.lemmas.Result.{err_from_is_err_and}
use Rattle.std.specs.Prelude.{max}
use Rattle.cm_history.specs.Image.{Image}
use Rattle.unit_gate.specs.Recorded.{facts}
use Rattle.unit_gate.specs.inner.Keeping.{state_of}
use Rattle.unit_gate.proofs.Acting.{stands-acted, newest-acted, stamp-acted, keeps-acted}
use Rattle.unit_gate.proofs.recorded_unit.RecordedUnit.act_in_room.Goals as goal

pub invariant_of-self-2 : goal.invariant_of-self-2
invariant_of-self-2 g c =
    let s = state_of (facts g.R.Recorder.recorded g.R.Recorder.record_faults g.R.Recorder.absent g.R.Recorder.front) c.self.inside.unit c.self.inside.recorder c.self.inside.opening.value c.self.inside.folded_then c.self.inside.late in
    let made = c.in_ok-answer.ensures in
    keeps-acted s c.act.new.self c.args.asked made.stands made.kept made.folded (g.R.Recorder.fits c.self.inside.recorder) c.self.invariant

pub returns-clause-done : goal.returns-clause-done
returns-clause-done g c =
    let s = state_of (facts g.R.Recorder.recorded g.R.Recorder.record_faults g.R.Recorder.absent g.R.Recorder.front) c.self.inside.unit c.self.inside.recorder c.self.inside.opening.value c.self.inside.folded_then c.self.inside.late in
    let made = c.in_ok-answer.ensures in
    rw (← c.self.view_is) (λ h is. record {
      answered = made.answer h is.unit;
      form = made.form;
      stamp = stamp-acted s c.act.new.self c.args.asked made.stands made.kept made.folded h c.last_stamp.result is c.last_stamp.ensures.told;
      stands = stands-acted s c.act.new.self c.args.asked made.stands made.kept made.folded h is;
      newest_is = newest-acted s c.act.new.self c.args.asked made.stands made.kept made.folded h is;
    })

pub returns-in_err-answer-clause-full : goal.returns-in_err-answer-clause-full
returns-in_err-answer-clause-full g c =
    let p = err_from_is_err_and c.from_residual.result c.from_residual.ensures.1 in
    rw (p.1, p.2, ← c.self.view_is) (λ e h is. c.in_err-answer.ensures.full e h is.unit)

pub returns-in_err-answer-clause-serving : goal.returns-in_err-answer-clause-serving
returns-in_err-answer-clause-serving g c =
    let p = err_from_is_err_and c.from_residual.result c.from_residual.ensures.1 in
    rw (p.1, p.2, ← c.self.view_is) (λ e h is serves.
    ap (λ (n : ℕ). max c.args.asked.stamp n) (ap (λ (j : Image). j.last_stamp) is.unit.image) ∙ c.in_err-answer.ensures.serves e h is.unit serves)

pub returns-in_err-answer-clause-ending : goal.returns-in_err-answer-clause-ending
returns-in_err-answer-clause-ending g c =
    let p = err_from_is_err_and c.from_residual.result c.from_residual.ensures.1 in
    rw (p.1, p.2, ← c.self.view_is) (λ e h is. c.in_err-answer.ensures.ends e h is.unit)
