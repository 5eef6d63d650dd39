use Rattle.std.proofs.Common.{◌≡◌, ◌++◌, take}
use Rattle.lba_ranges.specs.inner.HeldBlocks.{items_of}
use Rattle.lba_ranges.specs.HeldBlocks.{items_bytes}
use Rattle.lba_ranges.specs.inner.Runs.{pieces_of}
use Rattle.lba_ranges.proofs.list.BlockList.read_into.Given as goal

abbrev pub invariant-loop-run : goal.invariant-loop-run
invariant-loop-run l =
    l.into
    ≡ l.initial.into ++ items_bytes l.self-inside.block_length (items_of l.self-inside.block_length (pieces_of (take l.run-index l.run-items)))
