use Rattle.std.proofs.Common.{◌≡◌, length}
use Rattle.nexus.proofs.beginning.World+NoRecorder.new.Given as goal

abbrev pub invariant-loop : goal.invariant-loop
invariant-loop l = length l.recorders.items ≡ l.counter
