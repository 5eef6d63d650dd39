use Rattle.std.proofs.Common.{◌∙◌, arith, add-one, refl}
use Rattle.std.specs.Vec.Iter.{into_iter_items}
use Rattle.cm_history.specs.declared.act.Entry.{Entry}
use Rattle.unit_gate.specs.Opening.{opening_entries}
use Rattle.unit_gate.specs.Recorded.{facts}
use Rattle.nexus.specs.Opening.{stored}
use Rattle.nexus.proofs.Opening.{begun-low}
use Rattle.nexus.proofs.Resumed.{recorders-none, recorder-fits, has-recorded, recorders-more}
use Rattle.nexus.proofs.resuming.give_stores.Goals as goal

pub loop-init : goal.loop-init
loop-init g c = (
  rw (c.into_iter-stores.ensures.rest, c.into_iter-units.ensures.rest, c.requires.none)
      (recorders-none (stored (facts g.R.Recorder.recorded g.R.Recorder.record_faults g.R.Recorder.absent g.R.Recorder.front)) (λ s. (e : Entry) → g.R.Recorder.fits s.recorder e) c.args.config.now c.args.stores.items c.args.units.items c.requires.units c.requires.stores c.requires.fits),
  refl,
)

pub over-unit-requires-clause-fits : goal.over-unit-requires-clause-fits
over-unit-requires-clause-fits g c =
    recorder-fits (stored (facts g.R.Recorder.recorded g.R.Recorder.record_faults g.R.Recorder.absent g.R.Recorder.front)) (λ s. (e : Entry) → g.R.Recorder.fits s.recorder e) c.args.config.now c.args.stores.items (into_iter_items c.loop.stores) (into_iter_items c.next.new.self) (into_iter_items c.loop.units) (into_iter_items c.next-in-loop.new.self) c.loop.begun.items
    c.loop.counter c.in-Some.store c.in-Some-next.unit c.loop.invariant.0 c.in-Some.ensures.items c.in-Some-next.ensures.items

pub over-unit-requires-clause-history : goal.over-unit-requires-clause-history
over-unit-requires-clause-history g c = (
  opening_entries c.args.config.now c.loop.counter c.in-Some.store.history.entries,
  has-recorded (stored (facts g.R.Recorder.recorded g.R.Recorder.record_faults g.R.Recorder.absent g.R.Recorder.front)) (λ s. (e : Entry) → g.R.Recorder.fits s.recorder e) c.args.config.now c.args.stores.items (into_iter_items c.loop.stores) (into_iter_items c.next.new.self) (into_iter_items c.loop.units) (into_iter_items c.next-in-loop.new.self) c.loop.begun.items
      c.loop.counter c.in-Some.store c.in-Some-next.unit c.loop.invariant.0 c.in-Some.ensures.items c.in-Some-next.ensures.items,
)

pub push_reserved-requires : goal.push_reserved-requires
push_reserved-requires g c =
    let low = begun-low (stored (facts g.R.Recorder.recorded g.R.Recorder.record_faults g.R.Recorder.absent g.R.Recorder.front)) c.args.config.now c.args.stores.items (into_iter_items c.loop.stores) (into_iter_items c.next.new.self) c.loop.begun.items c.loop.counter c.in-Some.store c.loop.invariant.0.begun_are c.in-Some.ensures.items in
    let room = c.requires.room in
    let same = c.loop.invariant.1 in
    let long = c.loop.begun.ok.0 in
    omega (arith, low, room, same, long)

pub loop-preserved : goal.loop-preserved
loop-preserved g c = (
  rw (c.push_reserved.ensures.items, add-one)
      (recorders-more (stored (facts g.R.Recorder.recorded g.R.Recorder.record_faults g.R.Recorder.absent g.R.Recorder.front)) (λ s. (e : Entry) → g.R.Recorder.fits s.recorder e) c.args.config.now c.args.stores.items (into_iter_items c.loop.stores) (into_iter_items c.next.new.self) (into_iter_items c.loop.units) (into_iter_items c.next-in-loop.new.self) c.loop.begun.items
      c.loop.counter c.in-Some.store c.in-Some-next.unit c.loop.invariant.0 c.in-Some.ensures.items c.in-Some-next.ensures.items
      (record { unit = c.over-unit.result; history = c.in-Some.store.history.entries }) c.over-unit.ensures.stands c.over-unit.ensures.kin c.over-unit.ensures.marks c.over-unit.ensures.recorder refl),
  c.push_reserved.ensures.capacity ∙ c.loop.invariant.1,
)
