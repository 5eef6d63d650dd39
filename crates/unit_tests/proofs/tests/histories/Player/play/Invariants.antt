use Rattle.unit_tests.specs.inner.Players.{IsPlayer}
use Rattle.unit_tests.proofs.tests.histories.Player.play.Given as goal

abbrev pub invariant-loop : goal.invariant-loop
invariant-loop l = IsPlayer l.config l.number l.self
