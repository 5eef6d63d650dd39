use Rattle.std.proofs.Common.{◌≡◌, ◌++◌}
use Rattle.lba_ranges.specs.Denoted.{row}
use Rattle.lba_ranges.proofs.ranges.Range.push_blocks.Given as goal

abbrev pub invariant-loop-index : goal.invariant-loop-index
invariant-loop-index l = l.blocks.items ≡ l.initial.blocks.items ++ row l.self.lba l.index
