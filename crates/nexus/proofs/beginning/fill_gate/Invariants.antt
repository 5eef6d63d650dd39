use Rattle.nexus.proofs.beginning.fill_gate.Given as goal

abbrev pub ghost-fill : goal.ghost-fill
ghost-fill g a = g.opening
