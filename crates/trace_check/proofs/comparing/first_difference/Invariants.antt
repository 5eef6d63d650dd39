use Rattle.trace_check.proofs.Differing.{IsSoFar}
use Rattle.trace_check.proofs.comparing.first_difference.Given as goal

abbrev pub invariant-loop-place : goal.invariant-loop-place
invariant-loop-place l = IsSoFar l.place l.expected l.found
