use Rattle.std.proofs.Common.{◌≡◌, take}
use Rattle.std.specs.Prelude.{reverse}
use Rattle.cm_history.specs.Room.{payload}
use Rattle.plain_model.specs.inner.Amounts.{capped}
use Rattle.plain_model.proofs.deeds.PlainPast.payload.Given as goal

abbrev pub invariant-loop-deed : goal.invariant-loop-deed
invariant-loop-deed l = l.payload ≡ capped (payload 0 (reverse (take l.deed-index l.deed-items)))
