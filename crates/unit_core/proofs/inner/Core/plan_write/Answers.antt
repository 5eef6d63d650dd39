use Rattle.std.proofs.Common.{◌∙◌, ap, subst}
use Rattle.cm_base.specs.declared.config.UnitConfig.{UnitConfig}
use Rattle.cm_base.specs.Units.{unit_of}
use Rattle.cm_history.specs.Answers.{answer_write}
use Rattle.cm_history.specs.History.{past_of}
use Rattle.unit_core.specs.inner.BlockChanges.{MayChange}
use Rattle.unit_core.proofs.Blocks.{write-agrees}
use Rattle.unit_core.proofs.SimplePlans.{write-plan}
use Rattle.unit_core.proofs.inner.Core.plan_write.Goals as goal

pub returns : goal.returns
returns g c = λ h a.
    let u = c.args.self.now in
    let past = past_of u.config u.unit h in
    let holds = g.B.Blocks.holds u.tables.blocks in
    let list = c.args.list.now in
    let told = c.in_ok-plan.ensures.answer ∙ ap (λ (t : UnitConfig). answer_write t holds c.args.lba list.items) c.unit-unit.ensures.told
    ∙ write-agrees (unit_of u.config u.unit) past _ _ holds c.args.lba list.items a.blocks in
    let may = subst (λ (t : UnitConfig). MayChange t.blocks t.block_length c.in_ok-plan.plan.change) c.unit-unit.ensures.told c.in_ok-plan.ensures.may in
    rw (c.of_blocks.ensures) (λ actor at act writes free. write-plan u.config u.unit past actor at act c.args.lba list c.in_ok-plan.plan writes free told c.in_ok-plan.ensures.change may)
