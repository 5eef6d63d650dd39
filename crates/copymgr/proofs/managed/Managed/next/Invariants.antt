use Rattle.std.proofs.Common.{◌≡◌}
use Rattle.copymgr.proofs.managed.Managed.next.Given as goal

abbrev pub invariant-loop : goal.invariant-loop
invariant-loop g l = l.self.faults ≡ l.initial.self.faults
