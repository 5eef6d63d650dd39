use Rattle.std.proofs.Common.{◌≡◌, ◌+◌, take}
use Rattle.lba_ranges.specs.Denoted.{blocks_of}
use Rattle.lba_ranges.specs.Writings.{mapped_below, mapped_among}
use Rattle.lba_ranges.proofs.quota.mapped_after.Given as goal

abbrev pub invariant-loop-index : goal.invariant-loop-index
invariant-loop-index g l =
    l.kept + mapped_among (g.B.Blocks.holds l.unit) (blocks_of (take l.index l.ranges))
    ≡ mapped_below (g.B.Blocks.blocks l.unit) (g.B.Blocks.holds l.unit)
