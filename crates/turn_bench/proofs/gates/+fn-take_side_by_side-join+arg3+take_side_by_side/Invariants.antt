use Rattle.turn_bench.proofs.gates.+fn-take_side_by_side-join+arg3+take_side_by_side.Given as goal

abbrev pub decreases-take_side_by_side : goal.decreases-take_side_by_side
decreases-take_side_by_side g l = l.threads

abbrev pub decreases-join+arg3 : goal.decreases-join+arg3
decreases-join+arg3 g l = l.others
