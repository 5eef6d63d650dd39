use Rattle.std.proofs.Common.{◌≡◌, ℕ, ◌<◌, ◌≤◌, ◌-◌}
use Rattle.std.specs.Prelude.{is_some}
use Rattle.lun_extents.specs.Extents.{held_in}
use Rattle.lun_extents.proofs.unit.ExtentUnitBlocks.mapped_until.Given as goal

abbrev pub invariant-loop-end : goal.invariant-loop-end
invariant-loop-end l =
    (l.block < l.end) × (l.end ≤ l.self-inside.blocks)
    × ((b : ℕ) → l.block ≤ b → b < l.end → is_some (held_in l.self-inside.block_length l.self-inside.extents.entries b) ≡ l.first.mapped)

abbrev pub decreases-loop-end : goal.decreases-loop-end
decreases-loop-end l = l.self-inside.blocks - l.end
