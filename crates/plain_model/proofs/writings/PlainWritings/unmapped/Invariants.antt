use Rattle.std.proofs.Common.{◌≡◌, take}
use Rattle.lba_ranges.specs.Writings.{unmapped}
use Rattle.plain_model.proofs.writings.PlainWritings.unmapped.Given as goal

abbrev pub invariant-loop-block : goal.invariant-loop-block
invariant-loop-block l = l.writings ≡ unmapped (take l.block-index l.block-items)
