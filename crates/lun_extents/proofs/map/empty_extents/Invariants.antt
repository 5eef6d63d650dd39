use Rattle.std.proofs.Common.{◌≡◌, ℕ, ◌-◌, ◌<◌, ◌≤◌}
use Rattle.lun_extents.specs.Extents.{stored}
use Rattle.lun_extents.specs.inner.Extents.{emptied}
use Rattle.lun_extents.proofs.map.empty_extents.Given as goal

abbrev pub invariant-loop-first : goal.invariant-loop-first
invariant-loop-first l =
    (l.from ≤ l.at)
    × (l.at ≤ l.to)
    × ((b : ℕ) → l.from ≤ b → b < l.at → stored l.map.entries b ≡ emptied (stored l.initial.map.entries b))
    × ((b : ℕ) → b < l.from → stored l.map.entries b ≡ stored l.initial.map.entries b)
    × ((b : ℕ) → l.at ≤ b → stored l.map.entries b ≡ stored l.initial.map.entries b)

abbrev pub decreases-loop-first : goal.decreases-loop-first
decreases-loop-first l = l.to - l.at
