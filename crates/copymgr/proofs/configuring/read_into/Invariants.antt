use Rattle.std.proofs.Common.{◌≡◌, ◌≤◌, ◌-◌, length}
use Rattle.copymgr.proofs.configuring.read_into.Given as goal

abbrev pub invariant-loop-at : goal.invariant-loop-at
invariant-loop-at l = (l.at ≤ length l.room) × (length l.room ≡ length l.initial.room)

abbrev pub decreases-loop-at : goal.decreases-loop-at
decreases-loop-at l = length l.room - l.at
