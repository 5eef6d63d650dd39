use Rattle.std.proofs.Common.{◌≡◌, take}
use Rattle.std.specs.Prelude.{reverse}
use Rattle.cm_history.specs.Operations.{was_ended}
use Rattle.plain_model.proofs.deeds.PlainPast.was_ended.Given as goal

abbrev pub invariant-loop-deed : goal.invariant-loop-deed
invariant-loop-deed l = l.ended ≡ was_ended (reverse (take l.deed-index l.deed-items))
