use Rattle.std.proofs.Common.{◌≡◌, ◌+◌, drop}
use Rattle.std.specs.Prelude.{is_some}
use Rattle.std.specs.List.{count_by}
use Rattle.lba_ranges.specs.inner.HeldBlocks.{items_of}
use Rattle.lba_ranges.specs.inner.Runs.{pieces_of}
use Rattle.lba_ranges.proofs.list.BlockList.mapped.Given as goal

abbrev pub invariant-loop-run : goal.invariant-loop-run
invariant-loop-run l =
    l.blocks + count_by is_some (items_of l.self.block_length (pieces_of (drop l.run-index l.run-items)))
    ≡ count_by is_some (items_of l.self.block_length (pieces_of l.run-items))
