use Rattle.unit_gate.proofs.Replaying.{HasReplayed}
use Rattle.unit_gate.proofs.resuming.replay.Given as goal

abbrev pub invariant-loop-place : goal.invariant-loop-place
invariant-loop-place l = HasReplayed l.config l.unit l.history.entries l.told l.place
