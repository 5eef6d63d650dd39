use Rattle.cm_history.specs.History.{past_of}
use Rattle.unit_core.proofs.Planned.{out-plan}
use Rattle.unit_core.proofs.inner.Core.plan_out.Goals as goal

pub returns : goal.returns
returns g c = λ h a.
    let s = c.args.self.now in
    rw (c.of_reservations.ensures, c.in_ok-reservations.ensures.answer, c.in_ok-reservations.ensures.reservations, a.reservations)
    (λ at. out-plan s.config s.unit (past_of s.config s.unit h) c.args.actor at c.args.action c.args.scope c.args.kind c.args.key c.args.action_key)
