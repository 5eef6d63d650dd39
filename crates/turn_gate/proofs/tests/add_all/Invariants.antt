use Rattle.std.proofs.Common.{◌≡◌}
use Rattle.std.specs.Prelude.{false}
use Rattle.turn_gate.proofs.tests.add_all.Given as goal

abbrev pub invariant-loop-number : goal.invariant-loop-number
invariant-loop-number g l = record { gate : l.seat.gate ≡ l.gate; idle : l.seat.holds ≡ false }
