use Rattle.turn_gate.proofs.tests.fills_a_vacant_gate.Given as goal

abbrev pub ghost-fill : goal.ghost-fill
ghost-fill g a = a.value
