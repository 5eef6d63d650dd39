use Rattle.std.proofs.Common.{◌-◌, ◌^◌}
use Rattle.unit_gate.proofs.Ending.{HasEnded}
use Rattle.unit_gate.proofs.resuming.end_all.Given as goal

abbrev pub invariant-loop-told : goal.invariant-loop-told
invariant-loop-told l = HasEnded l.initial.told l.told

abbrev pub decreases-loop-told : goal.decreases-loop-told
decreases-loop-told l = 2 ^ 64 - l.told.image.last_stamp
