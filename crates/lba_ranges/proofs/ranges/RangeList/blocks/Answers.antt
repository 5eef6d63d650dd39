use Rattle.std.proofs.Common.{◌^◌, refl}
use Rattle.lba_ranges.proofs.Rows.{within-read, blocks_of-more}
use Rattle.lba_ranges.proofs.ranges.RangeList.blocks.Goals as goal

pub push_blocks-requires : goal.push_blocks-requires
push_blocks-requires c =
    within-read (2 ^ 64) c.as_slice-range-items.result.now c.loop-range.range-index _
    (rw c.as_slice-range-items.ensures.ranges c.requires) c.loop-range-test.true

pub loop-range-preserved : goal.loop-range-preserved
loop-range-preserved c =
    rw (c.in_ok-push_blocks.ensures, c.loop-range.invariant, blocks_of-more c.as_slice-range-items.result.now c.loop-range.range-index (record { lba = 0; count = 0 }) c.loop-range-test.true) refl
