use Rattle.std.proofs.Common.{ℕ, ◌-◌, ◌<◌, ◌≤◌}
use Rattle.std.specs.Prelude.{IsSome}
use Rattle.lun_plain.specs.Plain.{stored}
use Rattle.lun_plain.proofs.map.end_of_run.Given as goal

abbrev pub invariant-loop-end : goal.invariant-loop-end
invariant-loop-end l =
    (l.from < l.end) × (l.end ≤ l.to) × ((b : ℕ) → l.from ≤ b → b < l.end → IsSome (stored l.map.entries b))

abbrev pub decreases-loop-end : goal.decreases-loop-end
decreases-loop-end l = l.to - l.end
