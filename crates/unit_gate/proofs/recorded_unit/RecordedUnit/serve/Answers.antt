use Rattle.std.proofs.Common.{sym, ◌∙◌, subst}
use Rattle.turn_gate.specs.Marks.{AtMost}
use Rattle.unit_gate.specs.Recorded.{RecordedState, StandsFor, marks_of}
use Rattle.unit_gate.specs.UnitActs.{WasFolded}
use Rattle.unit_gate.proofs.Refusing.{ends-none, wanted-memory, full-still}
use Rattle.unit_gate.proofs.recorded_unit.RecordedUnit.serve.Goals as goal

pub returns-in-OutOfMemory-clause-refused : goal.returns-in-OutOfMemory-clause-refused
returns-in-OutOfMemory-clause-refused g c = λ h is.
    let full = c.in-Err-Full.ensures in
    let stays : StandsFor c.act_in_room.new.self h = subst (λ (s : RecordedState). StandsFor s h) (sym full.refused) is in
    wanted-memory c.args.self.now c.fold.new.self h c.args.asked (c.fold.ensures.stands h stays) (full.serving c.in-Err-Full.field-0-is h is (c.requires.serves h is))

pub returns-in_default : goal.returns-in_default
returns-in_default g c =
    let full = c.in-Err-Full.ensures in
    record {
      done = tt;
      refused = λ h is.
          let stays : StandsFor c.act_in_room.new.self h = subst (λ (s : RecordedState). StandsFor s h) (sym full.refused) is in
          let folded : WasFolded c.args.self.now c.fold.new.self = subst (λ (s : RecordedState). WasFolded s c.fold.new.self) full.refused (c.fold.ensures.folded c.in_default.not-OutOfMemory) in
          full-still c.args.self.now c.fold.new.self h c.args.asked (c.fold.ensures.stands h stays) folded (full.serving c.in-Err-Full.field-0-is h is (c.requires.serves h is));
      kin = c.fold.ensures.kin ∙ full.kin;
      marks = subst (λ l. AtMost l (marks_of c.fold.new.self)) full.marks c.fold.ensures.marks;
    }

pub returns-in-Err-OutOfMemory-clause-refused : goal.returns-in-Err-OutOfMemory-clause-refused
returns-in-Err-OutOfMemory-clause-refused g c = λ h is.
    let told = c.in-Err-OutOfMemory.ensures in
    let stays : StandsFor c.act_in_room.new.self h = subst (λ (s : RecordedState). StandsFor s h) (sym told.refused) is in
    ends-none c.args.self.now c.act_in_room.new.self h c.args.asked stays (told.ending c.in-Err-OutOfMemory.field-0-is h is)
