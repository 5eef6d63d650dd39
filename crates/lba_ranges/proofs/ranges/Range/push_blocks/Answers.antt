use Rattle.std.proofs.Common.{append_assoc, add-one}
use Rattle.lba_ranges.proofs.Rows.{row-push}
use Rattle.lba_ranges.proofs.ranges.Range.push_blocks.Goals as goal

pub loop-index-preserved : goal.loop-index-preserved
loop-index-preserved c =
    rw (c.in_ok-push.ensures.items, c.loop-index.invariant, c.from.ensures, add-one, row-push) (append_assoc c.args.blocks.now.items _ _)
