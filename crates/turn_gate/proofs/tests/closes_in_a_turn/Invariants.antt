use Rattle.turn_gate.proofs.tests.closes_in_a_turn.Given as goal

abbrev pub ghost-new : goal.ghost-new
ghost-new g a = a.value
