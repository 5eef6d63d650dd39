use Rattle.std.proofs.Common.{◌≡◌, take}
use Rattle.std.specs.Prelude.{reverse}
use Rattle.cm_history.specs.Deeds.{last_stamp}
use Rattle.plain_model.proofs.deeds.PlainPast.last_stamp.Given as goal

abbrev pub invariant-loop-deed : goal.invariant-loop-deed
invariant-loop-deed l = l.stamp ≡ last_stamp (reverse (take l.deed-index l.deed-items))
