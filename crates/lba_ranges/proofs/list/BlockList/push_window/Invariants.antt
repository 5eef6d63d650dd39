use Rattle.std.proofs.Common.{◌≡◌, ◌+◌, ◌≤◌, ◌++◌, length, take, drop}
use Rattle.std.specs.Prelude.{slice_range}
use Rattle.lba_ranges.specs.inner.HeldBlocks.{items_of}
use Rattle.lba_ranges.specs.inner.Runs.{pieces_of}
use Rattle.lba_ranges.proofs.list.BlockList.push_window.Given as goal

abbrev pub invariant-loop-run : goal.invariant-loop-run
invariant-loop-run l =
    let size = l.initial.self.block_length in
    let rest = items_of size (pieces_of (drop l.run-index l.runs)) in
    (l.self.block_length ≡ size)
    × (l.self.items ++ take l.left (drop l.skip rest)
    ≡ l.initial.self.items ++ slice_range (items_of size (pieces_of l.runs)) l.initial.skip (l.initial.skip + l.count))
    × (l.skip + l.left ≤ length rest)
    × (length l.self.items + l.left ≡ length l.initial.self.items + l.count)
