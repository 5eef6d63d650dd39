use Rattle.std.proofs.Common.{◌∙◌, ap, sym}
use Rattle.std.proofs.lemmas.Result.{IfOk-weaker}
use Rattle.cm_history.specs.Reserving.{bars_act}
use Rattle.cm_history.specs.History.{past_of}
use Rattle.unit_core.proofs.Planned.{conflict-plan}
use Rattle.unit_core.proofs.inner.Core.plan.Goals as goal

pub returns-then-bars-clause-planned : goal.returns-then-bars-clause-planned
returns-then-bars-clause-planned g c = λ h a.
    let s = c.args.self.now in
    let barred = ap (λ r. bars_act r c.args.actor c.args.act.now) (sym a.reservations) ∙ sym c.bars.ensures ∙ c.if-bars.true in
    rw c.answered.ensures (conflict-plan s.config s.unit (past_of s.config s.unit h) c.args.actor c.args.moment c.args.act.now barred)

pub returns-clause-planned : goal.returns-clause-planned
returns-clause-planned g c =
    IfOk-weaker c.plan_unbarred.result _ _
    (λ p f h a. f h a (ap (λ r. bars_act r c.args.actor c.args.act.now) (sym a.reservations) ∙ sym c.bars.ensures ∙ c.if-bars.false)) c.plan_unbarred.ensures.planned
