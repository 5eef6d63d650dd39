use Rattle.std.proofs.Common.{[]}
use Rattle.gate_tests.proofs.tests.turns.without_a_recorder.Given as goal

abbrev pub ghost-new : goal.ghost-new
ghost-new g a = []
