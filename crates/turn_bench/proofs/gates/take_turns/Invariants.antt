use Rattle.std.proofs.Common.{◌≡◌}
use Rattle.std.specs.Prelude.{false}
use Rattle.turn_bench.proofs.gates.take_turns.Given as goal

abbrev pub invariant-loop : goal.invariant-loop
invariant-loop g l = record { gate : l.seat.gate ≡ l.gate; idle : l.seat.holds ≡ false }
