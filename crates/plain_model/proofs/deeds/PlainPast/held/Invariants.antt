use Rattle.std.proofs.Common.{◌≡◌, take}
use Rattle.std.specs.Prelude.{reverse}
use Rattle.std.specs.Option.{option_copied}
use Rattle.cm_history.specs.Blocks.{held}
use Rattle.plain_model.proofs.deeds.PlainPast.held.Given as goal

abbrev pub invariant-loop-deed : goal.invariant-loop-deed
invariant-loop-deed l = option_copied l.last ≡ held (reverse (take l.deed-index l.deed-items)) l.block
