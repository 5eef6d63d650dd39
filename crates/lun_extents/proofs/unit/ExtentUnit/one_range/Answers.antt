use Rattle.std.proofs.Common.{◌≡◌, arith}
use Rattle.lba_ranges.proofs.PublicLaws.{within-at}
use Rattle.lun_extents.proofs.Planned.{single}
use Rattle.lun_extents.proofs.unit.ExtentUnit.one_range.Goals as goal

pub returns-clause-range : goal.returns-clause-range
returns-clause-range c = single c.args.ranges.now c.at-range.result (omega arith) c.at-range.ensures

pub returns-clause-within : goal.returns-clause-within
returns-clause-within c = within-at c.args.self.now.blocks c.args.ranges.now 0 c.at-range.result c.requires c.at-range.ensures
