use Rattle.std.proofs.Common.{[]}
use Rattle.turn_gate.proofs.tests.crowded.Given as goal

abbrev pub ghost-new : goal.ghost-new
ghost-new g a = []
