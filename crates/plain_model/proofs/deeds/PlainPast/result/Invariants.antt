use Rattle.std.proofs.Common.{◌≡◌, take}
use Rattle.std.specs.Prelude.{reverse}
use Rattle.cm_history.specs.Operations.{result_of}
use Rattle.plain_model.proofs.deeds.PlainPast.result.Given as goal

abbrev pub invariant-loop-deed : goal.invariant-loop-deed
invariant-loop-deed l = l.end ≡ result_of (reverse (take l.deed-index l.deed-items))
