use Rattle.std.proofs.Common.{◌≡◌, ℕ, ◌-◌, ◌≤◌}
use Rattle.lun_extents.specs.Extents.{held_in}
use Rattle.lun_extents.specs.inner.Extents.{AreExtents}
use Rattle.lun_extents.proofs.map.remove_empty_extents.Given as goal

abbrev pub invariant-loop-first : goal.invariant-loop-first
invariant-loop-first l =
    (l.at ≤ l.to)
    × ((b : ℕ) → held_in l.size l.map.entries b ≡ held_in l.size l.initial.map.entries b)
    × AreExtents l.blocks l.size l.map.entries

abbrev pub decreases-loop-first : goal.decreases-loop-first
decreases-loop-first l = l.to - l.at
