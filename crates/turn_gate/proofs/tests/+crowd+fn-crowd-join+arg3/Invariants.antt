use Rattle.turn_gate.proofs.tests.+crowd+fn-crowd-join+arg3.Given as goal

abbrev pub decreases-crowd : goal.decreases-crowd
decreases-crowd g l = l.makers

abbrev pub decreases-join+arg3 : goal.decreases-join+arg3
decreases-join+arg3 g l = l.by
