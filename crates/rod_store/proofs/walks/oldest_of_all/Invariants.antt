use Rattle.rod_store.proofs.Oldest.{OldestSoFar}
use Rattle.rod_store.proofs.walks.oldest_of_all.Given as goal

abbrev pub invariant-loop-serial : goal.invariant-loop-serial
invariant-loop-serial g l = OldestSoFar l.tokens l.serial-index l.oldest
