use Rattle.nexus.specs.Worlds.{IsFreePass}
use Rattle.world_tests.proofs.tests.read_in_order.Given as goal

abbrev pub invariant-loop-by_first : goal.invariant-loop-by_first
invariant-loop-by_first l = IsFreePass l.world 0 l.first × IsFreePass l.world 1 l.second
