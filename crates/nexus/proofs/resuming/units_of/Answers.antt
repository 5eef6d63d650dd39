use Rattle.std.proofs.Common.{◌<◌, Some, ap, sym, ◌∙◌, arith, add-one, length, map}
use Rattle.std.specs.Prelude.{slice_index_or}
use Rattle.std.proofs.lemmas.Result.{err_from_is_err_and}
use Rattle.unit_gate.specs.Recorded.{facts}
use Rattle.nexus.specs.Opening.{stored, bad_history}
use Rattle.nexus.proofs.Resumed.{get-mapped, on-given, on-more, on-bad}
use Rattle.nexus.proofs.resuming.units_of.Goals as goal

pub resume-requires-clause-given : goal.resume-requires-clause-given
resume-requires-clause-given g c =
    let low : c.loop-number.number < length c.args.stores.now.items = (let a = c.loop-number-test.true in let b = c.units-number-end.ensures.count in let d = c.requires.one_each in omega (arith, a, b, d)) in
    let at = get-mapped (stored (facts g.R.Recorder.recorded g.R.Recorder.record_faults g.R.Recorder.absent g.R.Recorder.front)) c.args.stores.now.items c.loop-number.number c.index.result.now low (c.index.ensures ∙ ap (λ n. slice_index_or c.args.stores.now.items n c.index.result.now) c.from.ensures) in
    on-given c.args.config.now (map (stored (facts g.R.Recorder.recorded g.R.Recorder.record_faults g.R.Recorder.absent g.R.Recorder.front)) c.args.stores.now.items) c.loop-number.units.items c.loop-number.number (stored (facts g.R.Recorder.recorded g.R.Recorder.record_faults g.R.Recorder.absent g.R.Recorder.front) c.index.result.now) c.loop-number.invariant at

pub returns-in_err-unit-clause-bad : goal.returns-in_err-unit-clause-bad
returns-in_err-unit-clause-bad g c =
    let low : c.loop-number.number < length c.args.stores.now.items = (let a = c.loop-number-test.true in let b = c.units-number-end.ensures.count in let d = c.requires.one_each in omega (arith, a, b, d)) in
    let at = get-mapped (stored (facts g.R.Recorder.recorded g.R.Recorder.record_faults g.R.Recorder.absent g.R.Recorder.front)) c.args.stores.now.items c.loop-number.number c.index.result.now low (c.index.ensures ∙ ap (λ n. slice_index_or c.args.stores.now.items n c.index.result.now) c.from.ensures) in
    let p = err_from_is_err_and c.from_residual.result c.from_residual.ensures.1 in
    rw (p.1, p.2) (λ no.
    let bad = c.in_err-unit.ensures.bad no in
    on-bad c.args.config.now (map (stored (facts g.R.Recorder.recorded g.R.Recorder.record_faults g.R.Recorder.absent g.R.Recorder.front)) c.args.stores.now.items) c.loop-number.units.items c.loop-number.number (stored (facts g.R.Recorder.recorded g.R.Recorder.record_faults g.R.Recorder.absent g.R.Recorder.front) c.index.result.now) c.loop-number.invariant at bad.0 bad.2 ∙ ap Some (sym bad.1))

pub loop-number-preserved : goal.loop-number-preserved
loop-number-preserved g c =
    let low : c.loop-number.number < length c.args.stores.now.items = (let a = c.loop-number-test.true in let b = c.units-number-end.ensures.count in let d = c.requires.one_each in omega (arith, a, b, d)) in
    let at = get-mapped (stored (facts g.R.Recorder.recorded g.R.Recorder.record_faults g.R.Recorder.absent g.R.Recorder.front)) c.args.stores.now.items c.loop-number.number c.index.result.now low (c.index.ensures ∙ ap (λ n. slice_index_or c.args.stores.now.items n c.index.result.now) c.from.ensures) in
    let made = c.in_ok-unit.ensures in
    rw (c.in-Ok.ensures.items, add-one)
    (on-more c.args.config.now (map (stored (facts g.R.Recorder.recorded g.R.Recorder.record_faults g.R.Recorder.absent g.R.Recorder.front)) c.args.stores.now.items) c.loop-number.units.items c.loop-number.number (stored (facts g.R.Recorder.recorded g.R.Recorder.record_faults g.R.Recorder.absent g.R.Recorder.front) c.index.result.now) c.loop-number.invariant at c.in_ok-unit.unit (record { stands = made.stands; folded = made.folded; config_is = made.config; unit_is = made.its_unit }) made.good)
