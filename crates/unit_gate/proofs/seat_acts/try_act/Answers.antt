use Rattle.std.proofs.Common.{ap, ◌∙◌}
use Rattle.unit_gate.specs.Recorded.{kin_of}
use Rattle.unit_gate.specs.SeatActs.{HasActed, IsSaved, IsTryRefused, UnitSeat}
use Rattle.unit_gate.specs.declared.refused.TryRefused.{TryRefused}
use Rattle.unit_gate.proofs.Seats.{acted-through, of-kin, refused-through, saved-through, took-at-once}
use Rattle.unit_gate.proofs.seat_acts.try_act.Goals as goal

pub returns-in-Ok-clause-done : goal.returns-in-Ok-clause-done
returns-in-Ok-clause-done g c =
    let s = c.in-Some.ensures in
    let took = took-at-once c.args.seat.now c.try_enter.new.seat c.in-Some.turn c.requires.idle s.longer s.above s.seat in
    of-kin c.args.gate.now.kin (kin_of c.in-Some.turn) (λ kin. HasActed kin c.args.seat.now c.act_in_turn.new.seat c.args.asked c.in-Ok.acted) s.kin
    (acted-through (kin_of c.in-Some.turn) c.args.seat.now c.try_enter.new.seat c.act_in_turn.new.seat c.args.asked took c.in-Ok.acted c.in-Ok.ensures.done)

pub returns-in-Err-clause-refused : goal.returns-in-Err-clause-refused
returns-in-Err-clause-refused g c =
    let s = c.in-Some.ensures in
    let took = took-at-once c.args.seat.now c.try_enter.new.seat c.in-Some.turn c.requires.idle s.longer s.above s.seat in
    of-kin c.args.gate.now.kin (kin_of c.in-Some.turn) (λ kin. IsTryRefused kin c.args.seat.now c.act_in_turn.new.seat c.args.asked (TryRefused.Act c.in-Err.refused)) s.kin (
      refused-through (kin_of c.in-Some.turn) c.args.seat.now c.try_enter.new.seat c.act_in_turn.new.seat c.args.asked took c.in-Err.refused c.in-Err.ensures.refused,
      c.act_in_turn.ensures.misses ∙ ap (λ (x : UnitSeat). x.misses) s.seat,
    )

pub returns-in-Ok-clause-saved : goal.returns-in-Ok-clause-saved
returns-in-Ok-clause-saved g c =
    let s = c.in-Some.ensures in
    let took = took-at-once c.args.seat.now c.try_enter.new.seat c.in-Some.turn c.requires.idle s.longer s.above s.seat in
    of-kin c.args.gate.now.kin (kin_of c.in-Some.turn) (λ kin. IsSaved _ kin c.args.seat.now c.act_in_turn.new.seat) s.kin
    (λ on absent. saved-through (kin_of c.in-Some.turn) c.args.seat.now c.try_enter.new.seat c.act_in_turn.new.seat c.args.asked took (c.in-Ok.ensures.saved on absent))
