use Rattle.std.proofs.Common.{◌≡◌, ◌++◌}
use Rattle.std.specs.Prelude.{map}
use Rattle.lba_ranges.specs.Denoted.{row}
use Rattle.lun_plain.specs.Plain.{stored}
use Rattle.lun_plain.proofs.unit.PlainUnit.cut_row.Given as goal

abbrev pub invariant-loop-index : goal.invariant-loop-index
invariant-loop-index l =
    (l.list.block_length ≡ l.self.block_length)
    × (l.list.items ≡ l.initial.list.items ++ map (stored l.self.entries) (row l.range.lba l.index))
