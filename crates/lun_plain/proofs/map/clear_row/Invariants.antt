use Rattle.std.proofs.Common.{◌≡◌, ℕ, ◌+◌, ◌<◌, ◌≤◌, length}
use Rattle.std.specs.Prelude.{◌⊎◌}
use Rattle.lun_plain.specs.Plain.{stored}
use Rattle.lun_plain.proofs.map.clear_row.Given as goal

abbrev pub invariant-loop-block : goal.invariant-loop-block
invariant-loop-block l =
    (b : ℕ) → (b < l.lba) ⊎ (l.lba + l.count ≤ b) → stored l.map.entries b ≡ stored l.initial.map.entries b

abbrev pub decreases-loop-block : goal.decreases-loop-block
decreases-loop-block l = length l.map.entries
