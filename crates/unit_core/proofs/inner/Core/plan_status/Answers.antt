use Rattle.std.proofs.Common.{◌∙◌, ap}
use Rattle.cm_base.specs.declared.config.UnitConfig.{UnitConfig}
use Rattle.cm_base.specs.Units.{unit_of}
use Rattle.cm_history.specs.Answers.{answer_status}
use Rattle.cm_history.specs.History.{past_of}
use Rattle.unit_core.proofs.Blocks.{status-agrees}
use Rattle.unit_core.proofs.SimplePlans.{status-plan}
use Rattle.unit_core.proofs.inner.Core.plan_status.Goals as goal

pub returns : goal.returns
returns g c = λ h a.
    let u = c.args.self.now in
    let past = past_of u.config u.unit h in
    let holds = g.B.Blocks.holds u.tables.blocks in
    let told = c.in_ok-plan.ensures.answer ∙ ap (λ (t : UnitConfig). answer_status t holds c.args.lba) c.unit-unit.ensures.told
    ∙ status-agrees (unit_of u.config u.unit) past _ _ holds c.args.lba a.blocks in
    rw (c.of_blocks.ensures) (λ actor at free. status-plan u.config u.unit past actor at c.args.lba c.in_ok-plan.plan free told c.in_ok-plan.ensures.change)
