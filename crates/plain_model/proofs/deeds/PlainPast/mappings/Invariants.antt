use Rattle.std.proofs.Common.{◌≡◌, take}
use Rattle.std.specs.Prelude.{reverse}
use Rattle.plain_model.specs.inner.Amounts.{capped, mappings}
use Rattle.plain_model.proofs.deeds.PlainPast.mappings.Given as goal

abbrev pub invariant-loop-deed : goal.invariant-loop-deed
invariant-loop-deed l = l.mappings ≡ capped (mappings (reverse (take l.deed-index l.deed-items)))
