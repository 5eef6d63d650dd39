use Rattle.std.proofs.Common.{◌≡◌, length}
use Rattle.world_tests.proofs.tests.recorders_of.Given as goal

abbrev pub invariant-loop : goal.invariant-loop
invariant-loop l = length l.recorders.items ≡ l.counter
