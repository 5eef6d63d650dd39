use Rattle.std.proofs.Common.{◌≡◌}
use Rattle.unit_tests.proofs.tests.playing.freeze.Given as goal

abbrev pub invariant-loop-block : goal.invariant-loop-block
invariant-loop-block l = (l.unit.config ≡ l.initial.unit.config) × (l.unit.unit ≡ l.initial.unit.unit)
