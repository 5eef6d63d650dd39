use Rattle.std.proofs.Common.{◌≡◌, ℕ, ◌-◌, ◌≤◌, List, length}
use Rattle.lba_ranges.specs.Denoted.{total}
use Rattle.copy_plan.specs.Plans.{IsCut, IsPlan, IsGreedy}
use Rattle.copy_plan.proofs.Cuts.{IsAhead}
use Rattle.copy_plan.proofs.planning.plan.Given as goal

abbrev pub invariant-loop-cursor : goal.invariant-loop-cursor
invariant-loop-cursor l = record {
  extents : l.cursor.extents ≡ l.job.from;
  within : l.cursor.place ≤ total l.job.from;
  cut : IsCut l.job.from 0 l.cursor.place l.ends;
  greedy : IsGreedy l.job.from 0 l.ends;
  ahead : (other : List ℕ) → IsPlan l.job.from other → IsAhead l.job.from other (length l.ends) l.cursor.place;
}

abbrev pub decreases-loop-cursor : goal.decreases-loop-cursor
decreases-loop-cursor l = total l.job.from - l.cursor.place
