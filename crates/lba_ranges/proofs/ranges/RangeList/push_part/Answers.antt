use Rattle.std.proofs.Common.{refl}
use Rattle.lba_ranges.proofs.Rows.{blocks_of-push, row-slice}
use Rattle.lba_ranges.proofs.ranges.RangeList.push_part.Goals as goal

pub returns-clause-blocks : goal.returns-clause-blocks
returns-clause-blocks c =
    let part = row-slice c.args.range.now.lba c.args.range.now.count c.args.from c.args.count c.requires.within in
    rw (c.in_ok-push.ensures.ok, blocks_of-push, c.from.ensures, part) refl
