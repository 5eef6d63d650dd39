use Rattle.std.proofs.Common.{◌≡◌, length}
use Rattle.server_tests.proofs.tests.recorded.wanting_recorders.Given as goal

abbrev pub invariant-loop-place : goal.invariant-loop-place
invariant-loop-place l = length l.recorders ≡ l.place
