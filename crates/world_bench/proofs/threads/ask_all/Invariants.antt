use Rattle.nexus.specs.Worlds.{IsFreePass}
use Rattle.world_bench.proofs.threads.ask_all.Given as goal

abbrev pub invariant-loop-index : goal.invariant-loop-index
invariant-loop-index g l = IsFreePass l.world l.number l.pass
