use Rattle.std.proofs.Common.{◌≡◌, take}
use Rattle.std.specs.Prelude.{map}
use Rattle.lba_ranges.specs.Denoted.{blocks_of}
use Rattle.lun_plain.specs.Plain.{stored}
use Rattle.lun_plain.proofs.unit.PlainUnitBlocks.cut.Given as goal

abbrev pub invariant-loop-index : goal.invariant-loop-index
invariant-loop-index l =
    (l.list.block_length ≡ l.self.block_length)
    × (l.list.items ≡ map (stored l.self.entries) (blocks_of (take l.index l.ranges)))
