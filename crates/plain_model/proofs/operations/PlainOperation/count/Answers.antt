use Rattle.std.proofs.Common.{◌≤◌, arith, subst}
use Rattle.lba_ranges.specs.Denoted.{total}
use Rattle.plain_model.specs.inner.Holds.{IsSoundAct}
use Rattle.plain_model.proofs.operations.PlainOperation.count.Goals as goal

pub overflow_cast-result : goal.overflow_cast-result
overflow_cast-result c =
    let few : total c.in-Populate.ranges ≤ 1_048_576 = subst IsSoundAct c.in-Populate.is c.act.ensures.sound in
    omega (arith, few, c.total.ensures.total)

pub returns-in-Populate-clause-few : goal.returns-in-Populate-clause-few
returns-in-Populate-clause-few c =
    let few : total c.in-Populate.ranges ≤ 1_048_576 = subst IsSoundAct c.in-Populate.is c.act.ensures.sound in
    omega (arith, few, c.total.ensures.total)
