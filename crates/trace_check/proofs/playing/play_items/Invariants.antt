use Rattle.std.proofs.Common.{◌≡◌, ◌≤◌, ℕ, length, drop}
use Rattle.cmd_program.specs.Judging.{step}
use Rattle.trace_check.specs.CheckedTrace.{checked_trace}
use Rattle.trace_check.specs.inner.Loops.{IsAt}
use Rattle.trace_check.proofs.playing.play_items.Given as goal

abbrev pub invariant-loop-left : goal.invariant-loop-left
invariant-loop-left l = (l.at ≤ length l.trace) × IsAt (checked_trace step l.trace) l.left l.at (drop l.at l.trace) l.machine

abbrev pub decreases-loop-left : goal.decreases-loop-left
decreases-loop-left l = l.left
