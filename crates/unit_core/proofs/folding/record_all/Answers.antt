use Rattle.std.proofs.Common.{◌∷◌, sym, ap, ◌∙◌, subst, arith}
use Rattle.unit_core.proofs.Folds.{Moved, moved-more, first-any, is-front}
use Rattle.unit_core.proofs.folding.record_all.Goals as goal

pub bytes_in-bytes-requires : goal.bytes_in-bytes-requires
bytes_in-bytes-requires g c =
    let l = c.loop-history in
    let f = is-front (g.R.Recorder.fits l.recorder) l.history.entries c.at-entry.result.now c.at-entry.ensures l.invariant.0 l.invariant.1 in
    omega (arith, f.bytes, l.invariant.8)

pub loop-history-preserved : goal.loop-history-preserved
loop-history-preserved g c =
    let l = c.loop-history in
    let before = l.invariant in
    let f = is-front (g.R.Recorder.fits l.recorder) l.history.entries c.at-entry.result.now c.at-entry.ensures before.0 before.1 in
    let moved : Moved c.args.history.now.entries c.drop_first.new.self.entries (g.R.Recorder.recorded c.args.recorder.now) (g.R.Recorder.recorded c.record.new.self) =
    moved-more c.args.history.now.entries c.drop_first.new.self.entries c.at-entry.result.now (g.R.Recorder.recorded c.args.recorder.now) (g.R.Recorder.recorded l.recorder) (g.R.Recorder.recorded c.record.new.self)
    (subst (λ es. Moved c.args.history.now.entries es (g.R.Recorder.recorded c.args.recorder.now) (g.R.Recorder.recorded l.recorder))
    (f.is ∙ ap (λ es. c.at-entry.result.now ∷ es) (sym c.drop_first.ensures.dropped)) before.3)
    c.in-Ok.ensures.grown in (
      first-any (g.R.Recorder.fits c.record.new.self) c.drop_first.new.self.entries c.in-Ok.ensures.any,
      rw c.drop_first.ensures.dropped f.rest,
      rw c.drop_first.ensures.dropped (omega (arith, before.2, f.bytes, c.bytes_in-bytes.ensures)),
      moved,
      c.drop_first.ensures.room ∙ before.4,
      c.record.ensures.same ∙ before.5,
      omega (arith, before.6, c.record.ensures.counts),
      (λ gone. let no = sym c.in-Ok.ensures.present ∙ before.5 ∙ gone in cc),
      rw c.drop_first.ensures.dropped (omega (arith, f.bytes, before.8)),
      c.record.ensures.front ∙ before.9,
    )
