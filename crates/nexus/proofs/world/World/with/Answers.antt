use Rattle.std.proofs.Common.{◌∙◌, ap, arith, length, map}
use Rattle.std.proofs.lemmas.List.{length-map}
use Rattle.unit_gate.specs.Recorded.{facts}
use Rattle.nexus.specs.inner.Building.{BegunState}
use Rattle.nexus.proofs.Opening.{begun-long, begun-units, fresh, is-begun}
use Rattle.nexus.proofs.GivenBack.{recorders-back}
use Rattle.nexus.proofs.world.World.with.Goals as goal

pub begin-requires-clause-one_each : goal.begin-requires-clause-one_each
begin-requires-clause-one_each g c =
    begun-long c.args.config.now 0 (map (fresh (facts g.R.Recorder.recorded g.R.Recorder.record_faults g.R.Recorder.absent g.R.Recorder.front)) c.args.recorders.items) c.give_recorders.new.begun.items c.give_recorders.ensures
    ∙ length-map c.args.recorders.items (fresh (facts g.R.Recorder.recorded g.R.Recorder.record_faults g.R.Recorder.absent g.R.Recorder.front))
    ∙ c.requires.one_each

pub begin-requires-clause-units : goal.begin-requires-clause-units
begin-requires-clause-units g c = begun-units c.args.config.now 0 (map (fresh (facts g.R.Recorder.recorded g.R.Recorder.record_faults g.R.Recorder.absent g.R.Recorder.front)) c.args.recorders.items) c.give_recorders.new.begun.items c.give_recorders.ensures

pub returns-in-Ok-begin-clause-begun : goal.returns-in-Ok-begin-clause-begun
returns-in-Ok-begin-clause-begun g c =
    is-begun (facts g.R.Recorder.recorded g.R.Recorder.record_faults g.R.Recorder.absent g.R.Recorder.front) c.args.config.now c.args.recorders.items c.give_recorders.new.begun.items c.in-Ok-begin.made.0 c.in-Ok-begin.made.1 c.give_recorders.ensures c.in-Ok-begin.ensures.begun

pub take_recorders-requires-clause-room : goal.take_recorders-requires-clause-room
take_recorders-requires-clause-room g c =
    let same = ap length c.in-Err-begin.ensures.back in
    let long = begun-long c.args.config.now 0 (map (fresh (facts g.R.Recorder.recorded g.R.Recorder.record_faults g.R.Recorder.absent g.R.Recorder.front)) c.args.recorders.items) c.give_recorders.new.begun.items c.give_recorders.ensures in
    let count = length-map c.args.recorders.items (fresh (facts g.R.Recorder.recorded g.R.Recorder.record_faults g.R.Recorder.absent g.R.Recorder.front)) in
    let room = c.in-Ok-with_capacity-2.ensures.capacity in
    let len = c.args.recorders.ok.0 in
    omega (arith, same, long, count, room, len)

pub returns-in-Err-begin-clause-back : goal.returns-in-Err-begin-clause-back
returns-in-Err-begin-clause-back g c =
    c.take_recorders.ensures
    ∙ ap (map (λ (b : BegunState). b.unit.recorder)) c.in-Err-begin.ensures.back
    ∙ recorders-back (facts g.R.Recorder.recorded g.R.Recorder.record_faults g.R.Recorder.absent g.R.Recorder.front) c.args.config.now 0 c.args.recorders.items c.give_recorders.new.begun.items c.give_recorders.ensures
