use Rattle.std.proofs.Common.{◌≡◌, drop}
use Rattle.std.specs.Prelude.{is_some}
use Rattle.std.specs.List.{list_all}
use Rattle.lba_ranges.specs.inner.HeldBlocks.{items_of}
use Rattle.lba_ranges.specs.inner.Runs.{pieces_of}
use Rattle.lba_ranges.proofs.list.BlockList.is_mapped.Given as goal

abbrev pub invariant-loop-run : goal.invariant-loop-run
invariant-loop-run l =
    list_all is_some (items_of l.self-inside.block_length (pieces_of l.self-inside.runs.items))
    ≡ list_all is_some (items_of l.self-inside.block_length (pieces_of (drop l.run-index l.run-items)))
