use Rattle.std.proofs.Common.{sym, ◌∙◌, subst}
use Rattle.unit_gate.specs.Asking.{IsServed}
use Rattle.unit_gate.specs.Recorded.{RecordedState, kin_of}
use Rattle.unit_gate.specs.SeatActs.{UnitSeat}
use Rattle.unit_gate.proofs.Seats.{acted-in-turn, counts, leaves, newest-some, refused-in-turn, saved-in-turn, was-done, was-refused}
use Rattle.unit_gate.proofs.seat_acts.act_in_turn.Goals as goal

pub returns-in-Ok-clause-done : goal.returns-in-Ok-clause-done
returns-in-Ok-clause-done g c =
    acted-in-turn c.args.turn _ c.act.new.self _ _ c.fold_if_eager.new.self c.args.seat.now c.count.new.seat c.leave.new.seat c.args.asked c.in-Ok.acted
    c.value.ensures.value c.requires.marks c.requires.stands c.in-Ok.ensures.done c.act.ensures.marks c.count.ensures.seat c.count.ensures.value c.value-in-Ok.ensures.value c.fold_if_eager.ensures.marks c.leave.ensures

pub returns-in-Err-clause-refused : goal.returns-in-Err-clause-refused
returns-in-Err-clause-refused g c =
    refused-in-turn c.args.turn _ c.act.new.self c.args.seat.now c.leave-in-Err.new.seat c.args.asked c.in-Err.refused
    c.value.ensures.value c.requires.marks c.requires.stands c.in-Err.ensures.refused c.act.ensures.kin c.act.ensures.marks c.leave-in-Err.ensures

pub count-requires-clause-newest : goal.count-requires-clause-newest
count-requires-clause-newest g c =
    newest-some _ _ c.act.new.self _ _ (was-done c.args.turn _ c.act.new.self c.args.seat.now.seen c.args.asked c.in-Ok.acted c.value.ensures.value c.requires.stands c.in-Ok.ensures.done)

pub count-requires-clause-stands : goal.count-requires-clause-stands
count-requires-clause-stands g c =
    counts c.args.turn _ c.act.new.self c.args.seat.now.seen c.args.asked c.in-Ok.acted c.value.ensures.value c.requires.stands c.in-Ok.ensures.done

pub leave-requires-clause-stands : goal.leave-requires-clause-stands
leave-requires-clause-stands g c =
    c.fold_if_eager.ensures.stands c.count.new.seat.seen
    (leaves c.act.new.self _ c.args.seat.now c.count.new.seat (c.value-in-Ok.ensures.value ∙ c.count.ensures.value) c.count.ensures.seat
    (counts c.args.turn _ c.act.new.self c.args.seat.now.seen c.args.asked c.in-Ok.acted c.value.ensures.value c.requires.stands c.in-Ok.ensures.done))

pub leave-requires-in-Err-clause-stands : goal.leave-requires-in-Err-clause-stands
leave-requires-in-Err-clause-stands g c =
    (was-refused c.args.turn _ c.act.new.self c.args.seat.now.seen c.args.asked c.in-Err.refused c.value.ensures.value c.requires.stands c.in-Err.ensures.refused).stands

pub returns-in-Err-clause-served : goal.returns-in-Err-clause-served
returns-in-Err-clause-served g c =
    let refused = was-refused c.args.turn _ c.act.new.self c.args.seat.now.seen c.args.asked c.in-Err.refused c.value.ensures.value c.requires.stands c.in-Err.ensures.refused in
    subst (λ (s : UnitSeat). IsServed (kin_of c.args.turn) s.seen c.args.asked c.in-Err.refused) (sym c.leave-in-Err.ensures)
    (subst (λ (s : RecordedState). IsServed (kin_of s) c.args.seat.now.seen c.args.asked c.in-Err.refused) c.value.ensures.value refused.served)

pub returns-in-Ok-clause-saved : goal.returns-in-Ok-clause-saved
returns-in-Ok-clause-saved g c =
    saved-in-turn c.args.turn _ c.act.new.self _ _ c.fold_if_eager.new.self _ c.args.seat.now c.count.new.seat c.leave.new.seat
    c.value.ensures.value c.requires.marks c.act.ensures.marks c.act.ensures.kin c.count.ensures.value c.value-in-Ok.ensures.value c.fold_if_eager.ensures.saved
    (c.fold_if_eager.ensures.stands c.count.new.seat.seen
    (leaves c.act.new.self _ c.args.seat.now c.count.new.seat (c.value-in-Ok.ensures.value ∙ c.count.ensures.value) c.count.ensures.seat
    (counts c.args.turn _ c.act.new.self c.args.seat.now.seen c.args.asked c.in-Ok.acted c.value.ensures.value c.requires.stands c.in-Ok.ensures.done)))
    c.leave.ensures
