use Rattle.std.proofs.Common.{◌≡◌}
use Rattle.unit_tests.proofs.tests.playing.play_on.Given as goal

abbrev pub invariant-loop-number : goal.invariant-loop-number
invariant-loop-number l = (l.unit.config ≡ l.initial.unit.config) × (l.unit.unit ≡ l.initial.unit.unit)
