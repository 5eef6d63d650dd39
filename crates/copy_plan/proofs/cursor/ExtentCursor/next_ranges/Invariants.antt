use Rattle.std.proofs.Common.{◌≡◌, ◌+◌, ◌-◌, ◌<◌, ◌≤◌, ◌++◌, length, take}
use Rattle.lba_ranges.specs.Denoted.{total}
use Rattle.copy_plan.specs.Plans.{ranges_between, longest_run}
use Rattle.copy_plan.proofs.cursor.ExtentCursor.next_ranges.Given as goal

abbrev pub invariant-loop : goal.invariant-loop
invariant-loop l = record {
  list : l.self.extents ≡ l.initial.self.extents;
  place : l.self.place + l.left ≡ l.initial.self.place + l.most;
  there : 0 < l.counter → l.initial.self.place ≤ total l.initial.self.extents;
  passed : l.self.place ≡ l.initial.self.place + total l.room.items;
  few : length l.room.items ≤ l.counter;
  spare : 64 ≤ l.room.spare + l.counter;
  run : l.room.items ++ take (64 - l.counter) (ranges_between l.self.extents l.self.place (l.self.place + l.left)) ≡ longest_run l.initial.self.extents l.initial.self.place l.most;
}
