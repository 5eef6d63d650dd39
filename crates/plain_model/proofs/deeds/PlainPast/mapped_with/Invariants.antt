use Rattle.std.proofs.Common.{◌≡◌, ◌≤◌}
use Rattle.lba_ranges.specs.Writings.{mapped_below, held_with}
use Rattle.cm_history.specs.Blocks.{held}
use Rattle.plain_model.proofs.deeds.PlainPast.mapped_with.Given as goal

abbrev pub invariant-loop-block : goal.invariant-loop-block
invariant-loop-block l = (l.mapped ≡ mapped_below l.block (held_with (held l.self) l.more)) × (l.mapped ≤ l.block)
