use Rattle.std.proofs.Common.{◌≡◌, ◌∙◌, ap, arith, subst, length, map, false}
use Rattle.std.proofs.lemmas.List.{length-map}
use Rattle.cm_history.specs.declared.act.Entry.{Entry}
use Rattle.cm_history.proofs.PublicLaws.{Each}
use Rattle.unit_gate.specs.Opening.{has_late_number}
use Rattle.unit_gate.specs.Recorded.{facts}
use Rattle.nexus.specs.Opening.{GoesOn, StoredUnit, next_nexus, stored}
use Rattle.nexus.specs.Roots.{RootView}
use Rattle.nexus.proofs.Resumed.{each-of, good-numbers, nexus-few}
use Rattle.nexus.specs.inner.Building.{store_in}
use Rattle.nexus.proofs.GivenBack.{stores-back}
use Rattle.nexus.proofs.Opening.{begun-long, begun-units, goes-on}
use Rattle.nexus.proofs.world.World.resume.Goals as goal

pub next_nexus-made-requires : goal.next_nexus-made-requires
next_nexus-made-requires g c =
    each-of (stored (facts g.R.Recorder.recorded g.R.Recorder.record_faults g.R.Recorder.absent g.R.Recorder.front)) (λ (s : StoredUnit). Each (λ (e : Entry). has_late_number e.actor ≡ false) s.history) c.args.stores.items
    (good-numbers c.args.config.now 0 (map (stored (facts g.R.Recorder.recorded g.R.Recorder.record_faults g.R.Recorder.absent g.R.Recorder.front)) c.args.stores.items) c.in-Ok.ensures.good)

pub begin-requires-clause-one_each : goal.begin-requires-clause-one_each
begin-requires-clause-one_each g c =
    begun-long c.args.config.now 0 (map (stored (facts g.R.Recorder.recorded g.R.Recorder.record_faults g.R.Recorder.absent g.R.Recorder.front)) c.args.stores.items) c.give_stores.new.begun.items c.give_stores.ensures
    ∙ length-map c.args.stores.items (stored (facts g.R.Recorder.recorded g.R.Recorder.record_faults g.R.Recorder.absent g.R.Recorder.front))
    ∙ c.requires.one_each

pub begin-requires-clause-units : goal.begin-requires-clause-units
begin-requires-clause-units g c = begun-units c.args.config.now 0 (map (stored (facts g.R.Recorder.recorded g.R.Recorder.record_faults g.R.Recorder.absent g.R.Recorder.front)) c.args.stores.items) c.give_stores.new.begun.items c.give_stores.ensures

pub returns-in-Ok-begin-clause-resumed : goal.returns-in-Ok-begin-clause-resumed
returns-in-Ok-begin-clause-resumed g c =
    subst (λ n. GoesOn c.args.config.now (map (stored (facts g.R.Recorder.recorded g.R.Recorder.record_faults g.R.Recorder.absent g.R.Recorder.front)) c.args.stores.items) n c.in-Ok-begin.made.0 c.in-Ok-begin.made.1) c.next_nexus-made.ensures
    (goes-on c.args.config.now (map (stored (facts g.R.Recorder.recorded g.R.Recorder.record_faults g.R.Recorder.absent g.R.Recorder.front)) c.args.stores.items) c.give_stores.new.begun.items c.next_nexus-made.result c.in-Ok-begin.made.0 c.in-Ok-begin.made.1 c.give_stores.ensures c.in-Ok-begin.ensures.begun)

pub returns-in-Ok-begin-clause-few : goal.returns-in-Ok-begin-clause-few
returns-in-Ok-begin-clause-few g c =
    let units = map (stored (facts g.R.Recorder.recorded g.R.Recorder.record_faults g.R.Recorder.absent g.R.Recorder.front)) c.args.stores.items in
    let begun = goes-on c.args.config.now units c.give_stores.new.begun.items c.next_nexus-made.result c.in-Ok-begin.made.0 c.in-Ok-begin.made.1 c.give_stores.ensures c.in-Ok-begin.ensures.begun in
    let few = nexus-few units (good-numbers c.args.config.now 0 units c.in-Ok.ensures.good) in
    let is : c.in-Ok-begin.made.1.made ≡ next_nexus units = ap (λ (r : RootView). r.made) begun.root_is ∙ c.next_nexus-made.ensures in
    omega (arith, few, is)

pub take_stores-requires-clause-room : goal.take_stores-requires-clause-room
take_stores-requires-clause-room g c =
    let same = ap length c.in-Err-begin.ensures.back in
    let long = begun-long c.args.config.now 0 (map (stored (facts g.R.Recorder.recorded g.R.Recorder.record_faults g.R.Recorder.absent g.R.Recorder.front)) c.args.stores.items) c.give_stores.new.begun.items c.give_stores.ensures in
    let count = length-map c.args.stores.items (stored (facts g.R.Recorder.recorded g.R.Recorder.record_faults g.R.Recorder.absent g.R.Recorder.front)) in
    let room = c.in-Ok-with_capacity-2.ensures.capacity in
    let len = c.args.stores.ok.0 in
    omega (arith, same, long, count, room, len)

pub returns-in-Err-begin-clause-handed_back : goal.returns-in-Err-begin-clause-handed_back
returns-in-Err-begin-clause-handed_back g c =
    c.take_stores.ensures
    ∙ ap (map store_in) c.in-Err-begin.ensures.back
    ∙ stores-back c.args.config.now 0 (map (stored (facts g.R.Recorder.recorded g.R.Recorder.record_faults g.R.Recorder.absent g.R.Recorder.front)) c.args.stores.items) c.give_stores.new.begun.items c.give_stores.ensures
