use Rattle.std.proofs.Common.{◌≡◌, length, take}
use Rattle.std.specs.Prelude.{reverse}
use Rattle.cm_history.specs.Operations.{written_by}
use Rattle.plain_model.proofs.deeds.PlainPast.written.Given as goal

abbrev pub invariant-loop-deed : goal.invariant-loop-deed
invariant-loop-deed l = l.written ≡ length (written_by (reverse (take l.deed-index l.deed-items)))
