use Rattle.std.proofs.Common.{ap, sym, ◌∙◌, arith, length, vec_capacity}
use Rattle.std.specs.Vec.Iter.{into_iter_items}
use Rattle.unit_gate.specs.Recorded.{facts}
use Rattle.unit_gate.specs.declared.kin.RecorderFacts.{RecorderFacts}
use Rattle.nexus.specs.Opening.{stored}
use Rattle.nexus.specs.inner.Building.{store_in}
use Rattle.nexus.proofs.GivenBack.{back-none, back-low, back-more, back-all}
use Rattle.nexus.proofs.Leaving.{nothing-left}
use Rattle.nexus.proofs.resuming.take_stores.Goals as goal

pub loop-begun-init : goal.loop-begun-init
loop-begun-init g c = (
  rw c.into_iter-units.ensures.rest (back-none (stored (facts g.R.Recorder.recorded g.R.Recorder.record_faults g.R.Recorder.absent g.R.Recorder.front)) store_in c.args.units.items c.args.stores.now.items (vec_capacity c.args.stores.now) c.requires.none c.requires.room),
  c.into_iter-units.ensures.len ∙ c.args.units.ok.0 ∙ ap length (sym c.into_iter-units.ensures.rest),
)

pub push_reserved-requires : goal.push_reserved-requires
push_reserved-requires g c =
    let low = back-low (stored (facts g.R.Recorder.recorded g.R.Recorder.record_faults g.R.Recorder.absent g.R.Recorder.front)) store_in c.args.units.items (into_iter_items c.loop-begun.units) (into_iter_items c.next.new.self) c.loop-begun.stores.items (vec_capacity c.loop-begun.stores) c.in-Some.begun c.loop-begun.invariant.0 c.in-Some.ensures.items in
    let long = c.loop-begun.stores.ok.0 in
    omega (arith, low, long)

pub loop-begun-preserved : goal.loop-begun-preserved
loop-begun-preserved g c =
    let units = c.loop-begun.invariant.1 in
    let less = c.in-Some.ensures.len in
    let list = ap length c.in-Some.ensures.items in (
      rw c.push_reserved.ensures.items
          (back-more (stored (facts g.R.Recorder.recorded g.R.Recorder.record_faults g.R.Recorder.absent g.R.Recorder.front)) store_in c.args.units.items (into_iter_items c.loop-begun.units) (into_iter_items c.next.new.self) c.loop-begun.stores.items (vec_capacity c.loop-begun.stores) c.in-Some.begun c.loop-begun.invariant.0 c.in-Some.ensures.items
          (record { history = c.begun.inside.history; recorder = c.into_closed-recorder.result.recorder }) (vec_capacity c.push_reserved.new.self)
          (ap (λ (r : RecorderFacts). record { history = c.begun.inside.history.entries; recorder = r }) c.into_closed-recorder.ensures.recorder ∙ ap store_in c.begun.view_is) c.push_reserved.ensures.capacity),
      omega (arith, units, less, list),
    )

pub returns : goal.returns
returns g c =
    back-all (stored (facts g.R.Recorder.recorded g.R.Recorder.record_faults g.R.Recorder.absent g.R.Recorder.front)) store_in c.args.units.items (into_iter_items c.loop-begun.units) c.loop-begun.stores.items (vec_capacity c.loop-begun.stores) c.loop-begun.invariant.0
    (nothing-left (into_iter_items c.loop-begun.units) (sym c.loop-begun.invariant.1 ∙ c.in_default.ensures.cases.0))
