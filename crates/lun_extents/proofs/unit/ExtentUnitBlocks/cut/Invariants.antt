use Rattle.std.proofs.Common.{◌≡◌, take}
use Rattle.std.specs.Prelude.{map}
use Rattle.lba_ranges.specs.Denoted.{blocks_of}
use Rattle.lun_extents.specs.Extents.{held_in}
use Rattle.lun_extents.proofs.unit.ExtentUnitBlocks.cut.Given as goal

abbrev pub invariant-loop-index : goal.invariant-loop-index
invariant-loop-index l =
    (l.list.block_length ≡ l.self.block_length)
    × (l.list.items ≡ map (held_in l.self.block_length l.self.entries) (blocks_of (take l.index l.ranges)))
