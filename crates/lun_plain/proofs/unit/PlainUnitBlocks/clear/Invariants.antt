use Rattle.std.proofs.Common.{◌≡◌, ℕ, take}
use Rattle.lba_ranges.specs.Denoted.{blocks_of}
use Rattle.lba_ranges.specs.Writings.{unmapped, after}
use Rattle.lun_plain.specs.Plain.{stored}
use Rattle.lun_plain.proofs.unit.PlainUnitBlocks.clear.Given as goal

abbrev pub invariant-loop-index : goal.invariant-loop-index
invariant-loop-index l =
    (l.self-inside.blocks ≡ l.initial.self-inside.blocks) × (l.self-inside.block_length ≡ l.initial.self-inside.block_length)
    × ((b : ℕ) → stored l.self-inside.held.entries b ≡ after (unmapped (blocks_of (take l.index l.ranges))) b (stored l.initial.self-inside.held.entries b))
