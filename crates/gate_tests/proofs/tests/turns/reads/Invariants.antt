use Rattle.std.proofs.Common.{◌≡◌, false}
use Rattle.gate_tests.proofs.tests.turns.reads.Given as goal

abbrev pub invariant-loop-seq : goal.invariant-loop-seq
invariant-loop-seq l = record {
  gate : l.seat.gate ≡ l.initial.seat.gate;
  idle : l.seat.holds ≡ false;
  first : l.seat.first ≡ l.initial.seat.first;
  out : l.seat.out ≡ l.initial.seat.out;
}
