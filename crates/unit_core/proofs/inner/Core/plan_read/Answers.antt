use Rattle.std.proofs.Common.{◌∙◌, ap}
use Rattle.cm_base.specs.declared.config.UnitConfig.{UnitConfig}
use Rattle.cm_base.specs.Units.{unit_of}
use Rattle.cm_history.specs.Answers.{answer_read}
use Rattle.cm_history.specs.History.{past_of}
use Rattle.unit_core.proofs.Blocks.{read-agrees}
use Rattle.unit_core.proofs.SimplePlans.{read-plan}
use Rattle.unit_core.proofs.inner.Core.plan_read.Goals as goal

pub returns : goal.returns
returns g c = λ h a.
    let u = c.args.self.now in
    let past = past_of u.config u.unit h in
    let holds = g.B.Blocks.holds u.tables.blocks in
    let told = c.in_ok-plan.ensures.answer ∙ ap (λ (t : UnitConfig). answer_read t holds c.args.lba c.args.count) c.unit-unit.ensures.told
    ∙ read-agrees (unit_of u.config u.unit) past _ _ holds c.args.lba c.args.count a.blocks in
    rw (c.of_blocks.ensures) (λ actor at act reads free. read-plan u.config u.unit past actor at act c.args.lba c.args.count c.in_ok-plan.plan reads free told c.in_ok-plan.ensures.change)
