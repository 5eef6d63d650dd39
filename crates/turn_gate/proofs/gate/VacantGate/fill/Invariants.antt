use Rattle.turn_gate.specs.inner.Seats.{opened}
use Rattle.turn_gate.proofs.gate.VacantGate.fill.Given as goal

abbrev pub ghosts-begin : goal.ghosts-begin
ghosts-begin g a = record { view = opened (g.V.Gated.kin a.value.now) g.opening (g.V.Gated.marks a.value.now) }
