use Rattle.std.proofs.Common.{◌≡◌}
use Rattle.block_params.specs.RangesRead.{ranges_in}
use Rattle.block_params.proofs.ranges.read_ranges.Given as goal

abbrev pub invariant-loop-index : goal.invariant-loop-index
invariant-loop-index l = l.ranges ≡ ranges_in l.index l.bytes
