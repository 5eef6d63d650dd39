use Rattle.cm_history.specs.History.{past_of}
use Rattle.unit_core.proofs.Planned.{delete-plan}
use Rattle.unit_core.proofs.inner.Core.plan_delete.Goals as goal

pub returns : goal.returns
returns g c = λ h a actor at.
    let s = c.args.self.now in
    rw c.of_tokens.ensures (delete-plan s.config s.unit (past_of s.config s.unit h) actor at c.args.serial)
