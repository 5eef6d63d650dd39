use Rattle.std.proofs.Common.{◌≡◌}
use Rattle.cm_server.proofs.sessions.accepting.next_pass.Given as goal

abbrev pub invariant-loop : goal.invariant-loop
invariant-loop g l = l.root ≡ l.initial.root
