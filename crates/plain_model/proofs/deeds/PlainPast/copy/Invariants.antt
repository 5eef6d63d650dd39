use Rattle.std.proofs.Common.{◌≡◌, take}
use Rattle.std.specs.Prelude.{reverse}
use Rattle.plain_model.proofs.deeds.PlainPast.copy.Given as goal

abbrev pub invariant-loop-deed : goal.invariant-loop-deed
invariant-loop-deed l = l.copy ≡ reverse (take l.deed-index l.deed-items)
