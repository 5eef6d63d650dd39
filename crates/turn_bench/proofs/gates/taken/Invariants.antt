use Rattle.std.proofs.Common.{[]}
use Rattle.turn_bench.proofs.gates.taken.Given as goal

abbrev pub ghost-new : goal.ghost-new
ghost-new g a = []
