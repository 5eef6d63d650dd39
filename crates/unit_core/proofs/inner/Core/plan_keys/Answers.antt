use Rattle.cm_history.specs.History.{past_of}
use Rattle.unit_core.proofs.Planned.{keys-plan}
use Rattle.unit_core.proofs.inner.Core.plan_keys.Goals as goal

pub returns : goal.returns
returns g c = λ h a.
    let s = c.args.self.now in
    rw (c.answered.ensures, c.in_ok-answer_keys.ensures, a.reservations) (λ actor at. keys-plan s.config s.unit (past_of s.config s.unit h) actor at)
