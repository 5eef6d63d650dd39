use Rattle.std.proofs.Common.{◌≡◌}
use Rattle.lba_ranges.specs.Denoted.{row}
use Rattle.plain_model.proofs.blocks.row.Given as goal

abbrev pub invariant-loop-index : goal.invariant-loop-index
invariant-loop-index l = l.blocks.items ≡ row l.lba l.index
