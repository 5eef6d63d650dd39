use Rattle.std.proofs.Common.{false}
use Rattle.std.specs.Prelude.{IfSome}
use Rattle.unit_gate.specs.Recorded.{kin_of}
use Rattle.unit_gate.specs.SeatActs.{HasActed, IsRefused, IsSaved}
use Rattle.unit_gate.proofs.Seats.{acted-through, if-err, if-ok, of-kin, refused-through, saved-through, took-turn}
use Rattle.unit_gate.proofs.seat_acts.act.Goals as goal

pub returns-clause-done : goal.returns-clause-done
returns-clause-done g c =
    let e = c.enter-turn in
    let took = took-turn c.args.seat.now e.new.seat e.result c.requires.idle e.ensures.longer e.ensures.above e.ensures.misses e.ensures.seat in
    if-ok c.act_in_turn.result (λ a. HasActed (kin_of e.result) (record e.new.seat { holds = false }) c.act_in_turn.new.seat c.args.asked a)
    (λ a. IfSome c.args.gate.now.kin (λ kin. HasActed kin c.args.seat.now c.act_in_turn.new.seat c.args.asked a)) c.act_in_turn.ensures.done
    (λ a did. of-kin c.args.gate.now.kin (kin_of e.result) (λ kin. HasActed kin c.args.seat.now c.act_in_turn.new.seat c.args.asked a) e.ensures.kin
    (acted-through (kin_of e.result) c.args.seat.now e.new.seat c.act_in_turn.new.seat c.args.asked took a did))

pub returns-clause-refused : goal.returns-clause-refused
returns-clause-refused g c =
    let e = c.enter-turn in
    let took = took-turn c.args.seat.now e.new.seat e.result c.requires.idle e.ensures.longer e.ensures.above e.ensures.misses e.ensures.seat in
    if-err c.act_in_turn.result (λ r. IsRefused (kin_of e.result) (record e.new.seat { holds = false }) c.act_in_turn.new.seat c.args.asked r)
    (λ r. IfSome c.args.gate.now.kin (λ kin. IsRefused kin c.args.seat.now c.act_in_turn.new.seat c.args.asked r)) c.act_in_turn.ensures.refused
    (λ r not_done. of-kin c.args.gate.now.kin (kin_of e.result) (λ kin. IsRefused kin c.args.seat.now c.act_in_turn.new.seat c.args.asked r) e.ensures.kin
    (refused-through (kin_of e.result) c.args.seat.now e.new.seat c.act_in_turn.new.seat c.args.asked took r not_done))

pub returns-clause-saved : goal.returns-clause-saved
returns-clause-saved g c =
    let e = c.enter-turn in
    let took = took-turn c.args.seat.now e.new.seat e.result c.requires.idle e.ensures.longer e.ensures.above e.ensures.misses e.ensures.seat in
    if-ok c.act_in_turn.result (λ a. IsSaved _ (kin_of e.result) (record e.new.seat { holds = false }) c.act_in_turn.new.seat)
    (λ a. IfSome c.args.gate.now.kin (λ kin. IsSaved _ kin c.args.seat.now c.act_in_turn.new.seat)) c.act_in_turn.ensures.saved
    (λ a saved. of-kin c.args.gate.now.kin (kin_of e.result) (λ kin. IsSaved _ kin c.args.seat.now c.act_in_turn.new.seat) e.ensures.kin
    (λ on absent. saved-through (kin_of e.result) c.args.seat.now e.new.seat c.act_in_turn.new.seat c.args.asked took (saved on absent)))
