use Rattle.std.specs.Prelude.{◌≡◌, ℕ}
use Rattle.lun_extents.specs.Extents.{held_in}
use Rattle.lun_extents.specs.inner.Extents.{AreExtents}
use Rattle.lun_extents.proofs.unit.ExtentUnit.remove_behind.Given as goal

abbrev pub invariant-loop-index : goal.invariant-loop-index
invariant-loop-index l =
    (l.self-inside.blocks ≡ l.initial.self-inside.blocks) × (l.self-inside.block_length ≡ l.initial.self-inside.block_length)
    × (l.self-inside.mapped ≡ l.initial.self-inside.mapped)
    × AreExtents l.self-inside.blocks l.self-inside.block_length l.self-inside.extents.entries
    × ((b : ℕ) → held_in l.self-inside.block_length l.self-inside.extents.entries b ≡ held_in l.self-inside.block_length l.initial.self-inside.extents.entries b)
