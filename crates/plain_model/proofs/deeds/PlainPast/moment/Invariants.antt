use Rattle.std.proofs.Common.{◌≡◌, take}
use Rattle.std.specs.Prelude.{reverse}
use Rattle.cm_history.specs.Deeds.{moment}
use Rattle.plain_model.proofs.deeds.PlainPast.moment.Given as goal

abbrev pub invariant-loop-deed : goal.invariant-loop-deed
invariant-loop-deed l = l.moment ≡ moment (reverse (take l.deed-index l.deed-items))
