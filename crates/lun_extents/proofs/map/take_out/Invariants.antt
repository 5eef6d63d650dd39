use Rattle.std.proofs.Common.{◌≡◌, ℕ, ◌<◌, ◌≤◌, length}
use Rattle.lun_extents.specs.Extents.{stored}
use Rattle.lun_extents.proofs.map.take_out.Given as goal

abbrev pub invariant-loop-first : goal.invariant-loop-first
invariant-loop-first l =
    ((b : ℕ) → b < l.from → stored l.map.entries b ≡ stored l.initial.map.entries b)
    × ((b : ℕ) → l.to ≤ b → stored l.map.entries b ≡ stored l.initial.map.entries b)

abbrev pub decreases-loop-first : goal.decreases-loop-first
decreases-loop-first l = length l.map.entries
