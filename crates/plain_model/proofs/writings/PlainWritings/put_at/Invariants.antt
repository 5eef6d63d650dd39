use Rattle.std.proofs.Common.{◌≡◌, take}
use Rattle.lba_ranges.specs.Denoted.{row}
use Rattle.lba_ranges.specs.Writings.{paired}
use Rattle.plain_model.proofs.writings.PlainWritings.put_at.Given as goal

abbrev pub invariant-loop-index : goal.invariant-loop-index
invariant-loop-index l = l.writings ≡ paired (row l.lba l.index) (take l.index l.list.items)
