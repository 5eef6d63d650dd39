use Rattle.std.proofs.Common.{◌∙◌, ap, subst}
use Rattle.cm_base.specs.declared.config.UnitConfig.{UnitConfig}
use Rattle.cm_history.specs.Answers.{answer_unmap}
use Rattle.cm_history.specs.History.{past_of}
use Rattle.unit_core.specs.inner.BlockChanges.{MayChange}
use Rattle.unit_core.proofs.SimplePlans.{unmap-plan}
use Rattle.unit_core.proofs.inner.Core.plan_unmap.Goals as goal

pub returns : goal.returns
returns g c = λ h a.
    let u = c.args.self.now in
    let past = past_of u.config u.unit h in
    let told = c.unmap-plan.ensures.answer ∙ ap (λ (t : UnitConfig). answer_unmap t c.args.ranges.now) c.unit-unit.ensures.told in
    let may = subst (λ (t : UnitConfig). MayChange t.blocks t.block_length c.unmap-plan.result.change) c.unit-unit.ensures.told c.unmap-plan.ensures.may in
    rw (c.of_blocks.ensures) (λ actor at free. unmap-plan u.config u.unit past actor at c.args.ranges.now c.unmap-plan.result free told c.unmap-plan.ensures.change may)
