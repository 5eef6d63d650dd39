use Rattle.unit_gate.specs.Recorded.{kin_of}
use Rattle.unit_gate.specs.SeatActs.{HasTaken}
use Rattle.unit_gate.proofs.Seats.{of-kin, taken}
use Rattle.unit_gate.proofs.holding.hold.Goals as goal

pub returns-in-Some-clause-taken : goal.returns-in-Some-clause-taken
returns-in-Some-clause-taken g c =
    let s = c.in-Some.ensures in
    of-kin c.args.gate.now.kin (kin_of c.in-Some.turn) (λ kin. HasTaken kin c.args.seat.now c.try_enter.new.seat) s.kin
    (taken c.args.seat.now c.try_enter.new.seat c.in-Some.turn s.stands s.longer s.above s.seat)
