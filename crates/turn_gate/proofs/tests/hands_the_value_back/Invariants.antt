use Rattle.turn_gate.proofs.tests.hands_the_value_back.Given as goal

abbrev pub ghost-new : goal.ghost-new
ghost-new g a = a.value
