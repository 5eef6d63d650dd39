use Rattle.std.proofs.Common.{◌∙◌, ap, sym, arith, add-one, refl}
use Rattle.std.specs.Vec.Iter.{into_iter_items}
use Rattle.cm_history.specs.declared.act.Entry.{Entry}
use Rattle.cm_history.specs.Record.{Record}
use Rattle.unit_gate.specs.Recorded.{facts}
use Rattle.nexus.proofs.Opening.{begun-low, fresh, new-none, new-left, new-fits, new-stands, new-folded, new-more}
use Rattle.nexus.proofs.beginning.give_recorders.Goals as goal

pub loop-init : goal.loop-init
loop-init g c = (
  rw (c.into_iter-recorders.ensures.rest, c.into_iter-units.ensures.rest, c.requires.none)
      (new-none (facts g.R.Recorder.recorded g.R.Recorder.record_faults g.R.Recorder.absent g.R.Recorder.front) (λ r. (e : Entry) → g.R.Recorder.fits r e) c.args.config.now c.args.recorders.items c.args.units.items c.requires.fits c.requires.new (c.requires.its_unit ∙ sym c.requires.one_each)),
  refl,
)

pub fresh-unit-requires-clause-fits : goal.fresh-unit-requires-clause-fits
fresh-unit-requires-clause-fits g c =
    new-fits (facts g.R.Recorder.recorded g.R.Recorder.record_faults g.R.Recorder.absent g.R.Recorder.front) (λ r. (e : Entry) → g.R.Recorder.fits r e) c.args.config.now c.args.recorders.items (into_iter_items c.loop.recorders) (into_iter_items c.next.new.self) (into_iter_items c.loop.units) (into_iter_items c.next-in-loop.new.self) c.loop.begun.items c.loop.counter c.in-Some.recorder c.in-Some-next.unit
    c.loop.invariant.0 c.in-Some.ensures.items c.in-Some-next.ensures.items

pub fresh-unit-requires-clause-stands : goal.fresh-unit-requires-clause-stands
fresh-unit-requires-clause-stands g c =
    new-stands (facts g.R.Recorder.recorded g.R.Recorder.record_faults g.R.Recorder.absent g.R.Recorder.front) (λ r. (e : Entry) → g.R.Recorder.fits r e) c.args.config.now c.args.recorders.items (into_iter_items c.loop.recorders) (into_iter_items c.next.new.self) (into_iter_items c.loop.units) (into_iter_items c.next-in-loop.new.self) c.loop.begun.items c.loop.counter c.in-Some.recorder c.in-Some-next.unit
    c.loop.invariant.0 c.in-Some.ensures.items c.in-Some-next.ensures.items

pub fresh-unit-requires-clause-folded : goal.fresh-unit-requires-clause-folded
fresh-unit-requires-clause-folded g c =
    new-folded (facts g.R.Recorder.recorded g.R.Recorder.record_faults g.R.Recorder.absent g.R.Recorder.front) (λ r. (e : Entry) → g.R.Recorder.fits r e) c.args.config.now c.args.recorders.items (into_iter_items c.loop.recorders) (into_iter_items c.next.new.self) (into_iter_items c.loop.units) (into_iter_items c.next-in-loop.new.self) c.loop.begun.items c.loop.counter c.in-Some.recorder c.in-Some-next.unit
    c.loop.invariant.0 c.in-Some.ensures.items c.in-Some-next.ensures.items

pub push_reserved-requires : goal.push_reserved-requires
push_reserved-requires g c =
    let low = begun-low (fresh (facts g.R.Recorder.recorded g.R.Recorder.record_faults g.R.Recorder.absent g.R.Recorder.front)) c.args.config.now c.args.recorders.items (into_iter_items c.loop.recorders) (into_iter_items c.next.new.self) c.loop.begun.items c.loop.counter c.in-Some.recorder c.loop.invariant.0.begun_are c.in-Some.ensures.items in
    let room = c.requires.room in
    let same = c.loop.invariant.1 in
    let long = c.loop.begun.ok.0 in
    omega (arith, low, room, same, long)

pub loop-preserved : goal.loop-preserved
loop-preserved g c = (
  rw (c.push_reserved.ensures.items, add-one)
      (new-more (facts g.R.Recorder.recorded g.R.Recorder.record_faults g.R.Recorder.absent g.R.Recorder.front) (λ r. (e : Entry) → g.R.Recorder.fits r e) c.args.config.now c.args.recorders.items (into_iter_items c.loop.recorders) (into_iter_items c.next.new.self) (into_iter_items c.loop.units) (into_iter_items c.next-in-loop.new.self) c.loop.begun.items c.loop.counter c.in-Some.recorder c.in-Some-next.unit
      c.loop.invariant.0 c.in-Some.ensures.items c.in-Some-next.ensures.items
      (record { unit = c.fresh-unit.result; history = c.empty-history.result.entries }) c.fresh-unit.ensures.stands c.fresh-unit.ensures.kin c.fresh-unit.ensures.marks c.fresh-unit.ensures.recorder
      (ap (λ (h : Record). h.entries) c.empty-history.ensures)),
  c.push_reserved.ensures.capacity ∙ c.loop.invariant.1,
)
