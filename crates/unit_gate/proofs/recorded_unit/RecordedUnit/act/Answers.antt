use Rattle.std.proofs.Common.{List, ◌≡◌, sym, ◌∙◌, false}
use Rattle.cm_history.specs.declared.act.Entry.{Entry}
use Rattle.unit_gate.specs.Asking.{serves_operation}
use Rattle.unit_gate.specs.Recorded.{StandsFor, kin_of, facts}
use Rattle.unit_gate.specs.inner.Keeping.{state_of}
use Rattle.unit_gate.proofs.Refusing.{done-in-room, no-room, refused-in-room}
use Rattle.unit_gate.proofs.recorded_unit.RecordedUnit.act.Goals as goal

pub returns-in-Err-clause-refused : goal.returns-in-Err-clause-refused
returns-in-Err-clause-refused g c = λ h is.
    let s = state_of (facts g.R.Recorder.recorded g.R.Recorder.record_faults g.R.Recorder.absent g.R.Recorder.front) c.self.inside.unit c.self.inside.recorder c.self.inside.opening.value c.self.inside.folded_then c.self.inside.late in
    let at : StandsFor s h = rw c.self.view_is is in
    let alone : serves_operation (kin_of c.args.self.now) h c.args.asked ≡ false = rw (← c.self.view_is) (sym (c.serves.ensures h at.unit) ∙ c.if-serves.false) in
    no-room c.args.self.now c.make_room.new.self h c.args.asked (c.make_room.ensures.stands h is) alone

pub serve-requires-clause-serves : goal.serve-requires-clause-serves
serve-requires-clause-serves g c = rw (← c.self.view_is) (λ h is. sym (c.serves.ensures h is.unit) ∙ c.if-serves.true)

pub returns-in-Ok-clause-done : goal.returns-in-Ok-clause-done
returns-in-Ok-clause-done g c =
    done-in-room c.args.self.now c.make_room.new.self c.act_in_room.new.self c.args.asked c.make_room.ensures.stands c.make_room.ensures.kin c.act_in_room.result c.act_in_room.ensures.done

pub returns-in-Ok-clause-refused : goal.returns-in-Ok-clause-refused
returns-in-Ok-clause-refused g c =
    let alone : (h : List Entry) → StandsFor c.args.self.now h → serves_operation (kin_of c.args.self.now) h c.args.asked ≡ false =
    rw (← c.self.view_is) (λ h is. sym (c.serves.ensures h is.unit) ∙ c.if-serves.false) in
    refused-in-room c.args.self.now c.make_room.new.self c.act_in_room.new.self c.args.asked c.make_room.ensures.stands c.make_room.ensures.kin c.act_in_room.result
    c.act_in_room.ensures.refused c.act_in_room.ensures.full c.in-Ok.ensures.folded alone
