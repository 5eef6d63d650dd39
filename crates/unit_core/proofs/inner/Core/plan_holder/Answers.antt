use Rattle.cm_history.specs.History.{past_of}
use Rattle.unit_core.proofs.Planned.{holder-plan}
use Rattle.unit_core.proofs.inner.Core.plan_holder.Goals as goal

pub returns : goal.returns
returns g c = λ h a.
    let s = c.args.self.now in
    rw (c.answered.ensures, c.answer_holder.ensures, a.reservations) (λ actor at. holder-plan s.config s.unit (past_of s.config s.unit h) actor at)
