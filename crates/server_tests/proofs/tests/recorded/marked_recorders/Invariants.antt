use Rattle.std.proofs.Common.{◌≡◌, length}
use Rattle.server_tests.proofs.tests.recorded.marked_recorders.Given as goal

abbrev pub invariant-loop-unit : goal.invariant-loop-unit
invariant-loop-unit l = length l.recorders ≡ l.unit
