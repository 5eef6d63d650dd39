use Rattle.std.proofs.Common.{◌≡◌, ◌+◌, ◌-◌, ◌<◌, ◌≤◌, take}
use Rattle.lba_ranges.specs.Denoted.{total}
use Rattle.copy_plan.specs.Plans.{ranges_between, longest_run}
use Rattle.copy_plan.proofs.cursor.ExtentCursor.pass.Given as goal

abbrev pub invariant-loop : goal.invariant-loop
invariant-loop l = record {
  list : l.self.extents ≡ l.initial.self.extents;
  place : l.self.place + l.left ≡ l.initial.self.place + l.most;
  within : l.left ≤ l.most;
  there : 0 < l.counter → l.initial.self.place ≤ total l.initial.self.extents;
  run : total (take (64 - l.counter) (ranges_between l.self.extents l.self.place (l.self.place + l.left))) + (l.most - l.left)
      ≡ total (longest_run l.initial.self.extents l.initial.self.place l.most);
}
