use Rattle.unit_gate.specs.Recorded.{kin_of}
use Rattle.unit_gate.specs.SeatActs.{HasWaited}
use Rattle.unit_gate.proofs.Seats.{of-kin, waited}
use Rattle.unit_gate.proofs.holding.hold_waiting.Goals as goal

pub returns-clause-waited : goal.returns-clause-waited
returns-clause-waited g c =
    let e = c.enter in
    let s = e.ensures in
    of-kin c.args.gate.now.kin (kin_of e.result) (λ kin. HasWaited kin c.args.seat.now e.new.seat) s.kin
    (waited c.args.seat.now e.new.seat e.result s.stands s.longer s.above s.misses s.seat)
