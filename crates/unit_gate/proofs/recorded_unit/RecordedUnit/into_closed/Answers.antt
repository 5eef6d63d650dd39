use Rattle.std.proofs.Common.{ap}
use Rattle.unit_gate.specs.declared.recorded_unit.UnitCount.{UnitCount}
use Rattle.unit_gate.proofs.recorded_unit.RecordedUnit.into_closed.Goals as goal

pub returns-clause-steps : goal.returns-clause-steps
returns-clause-steps g c = λ h is. ap (λ (u : UnitCount). u.steps) (c.count-count.ensures h is)

pub returns-clause-live : goal.returns-clause-live
returns-clause-live g c = λ h is. ap (λ (u : UnitCount). u.live) (c.count-count.ensures h is)

pub returns-clause-mapped : goal.returns-clause-mapped
returns-clause-mapped g c = λ h is. ap (λ (u : UnitCount). u.mapped) (c.count-count.ensures h is)
