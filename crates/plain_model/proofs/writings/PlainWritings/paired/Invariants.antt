use Rattle.std.proofs.Common.{◌≡◌, take}
use Rattle.lba_ranges.specs.Writings.{paired}
use Rattle.plain_model.proofs.writings.PlainWritings.paired.Given as goal

abbrev pub invariant-loop-index : goal.invariant-loop-index
invariant-loop-index l = l.writings ≡ paired (take l.index l.block-items) l.list.items
