use Rattle.std.proofs.Common.{◌≡◌, ◌∷◌, [], ap, sym, ◌∙◌, subst, take}
use Rattle.recorder.specs.Recording.{with_more}
use Rattle.turn_gate.specs.Places.{EachOnce}
use Rattle.unit_gate.specs.declared.kin.RecorderFacts.{RecorderFacts}
use Rattle.unit_gate.specs.Recorded.{RecordedState, StandsFor, facts}
use Rattle.nexus.specs.inner.Closing.{IsClosed}
use Rattle.nexus.proofs.Made.{all-made, all-later}
use Rattle.nexus.proofs.closing.close_one.Goals as goal

pub returns : goal.returns
returns g c =
    let facts_of = facts g.R.Recorder.recorded g.R.Recorder.record_faults g.R.Recorder.absent g.R.Recorder.front in
    let s = c.args.seat in
    let v = c.close_held.result in
    let left = c.into_closed.result in
    let e = c.into_closed.ensures in
    let same : v ≡ c.args.held = c.close_held.ensures.value ∙ c.held.view_is in
    let stands : StandsFor v s.seen = subst (λ (u : RecordedState). StandsFor u s.seen) (sym same) c.requires.held.stands in
    let once : EachOnce s.opening s.seen [] s.joined = subst (λ o. EachOnce s.opening s.seen o s.joined) c.requires.ready.nothing c.close_held.ensures.once in
    subst (λ (u : RecordedState). IsClosed facts_of g.R.Recorder.fits s u left) same (record {
      made = all-made s.opening s.seen s.joined c.close_held.ensures.sound.parts once;
      later = all-later s.opening s.seen s.joined c.close_held.ensures.sound.parts once;
      left_of = record {
        few = e.few s.seen stands;
        unfolded = e.unfolded;
        absent = e.absent;
        front = e.front;
        kept = e.rest s.seen stands;
        recorded = ap (λ (r : RecorderFacts). r.recorded) e.recorder ∙ stands.recorded ∙ ap (λ n. with_more v.opening.recorded (take n s.seen)) (sym e.folded);
        fits_next = e.fits;
        steps = e.steps s.seen stands;
        live = e.live s.seen stands;
        mapped_is = e.mapped s.seen stands;
      };
      kept_is = e.kept;
      marks_are =
          ap (λ (r : RecorderFacts). r.faults ∷ left.folded ∷ left.late ∷ []) e.recorder ∙ ap (λ n. v.recorder.faults ∷ n ∷ left.late ∷ []) e.folded
          ∙ ap (λ n. v.recorder.faults ∷ v.unit.folded ∷ n ∷ []) e.late;
    })
