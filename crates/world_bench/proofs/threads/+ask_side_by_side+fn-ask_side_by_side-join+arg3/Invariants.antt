use Rattle.world_bench.proofs.threads.+ask_side_by_side+fn-ask_side_by_side-join+arg3.Given as goal

abbrev pub decreases-ask_side_by_side : goal.decreases-ask_side_by_side
decreases-ask_side_by_side g l = l.threads

abbrev pub decreases-join+arg3 : goal.decreases-join+arg3
decreases-join+arg3 g l = l.others
