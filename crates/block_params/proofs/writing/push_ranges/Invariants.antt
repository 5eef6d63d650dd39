use Rattle.std.proofs.Common.{◌≡◌, ◌++◌, take}
use Rattle.block_params.specs.inner.Lists.{AreRanges}
use Rattle.block_params.specs.ListsWritten.{descriptors}
use Rattle.block_params.proofs.writing.push_ranges.Given as goal

abbrev pub invariant-loop-index : goal.invariant-loop-index
invariant-loop-index l = record {
  written : l.bytes ≡ l.initial.bytes ++ descriptors (take l.index l.ranges);
  fits : AreRanges (take l.index l.ranges);
}
