use Rattle.std.proofs.Common.{◌≡◌, take}
use Rattle.nexus.specs.Opening.{numbers_after}
use Rattle.nexus.proofs.resuming.numbers_after.Given as goal

abbrev pub invariant-loop-place : goal.invariant-loop-place
invariant-loop-place l = l.next ≡ numbers_after (take l.place l.history.entries)
