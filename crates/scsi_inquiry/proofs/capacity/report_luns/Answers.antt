use Rattle.std.proofs.Common.{length, ap, arith}
use Rattle.std.proofs.lemmas.Grind.{common_steps}
use Rattle.scsi_inquiry.proofs.Luns.{luns-push, length-luns}
use Rattle.scsi_inquiry.proofs.capacity.report_luns.Goals as goal

pub loop-unit-preserved : goal.loop-unit-preserved
loop-unit-preserved c =
    let more = luns-push 0 c.loop-unit.unit c.loop-unit.unit (omega arith) in
    grind (arith, common_steps, more, c.in_ok-extend.ensures.ok)

pub returns-clause-few : goal.returns-clause-few
returns-clause-few c =
    let each = length-luns 0 c.loop-unit.unit in
    let all = ap length c.loop-unit.invariant in
    let units = c.units-units.ensures.limits.count.1 in
    omega (arith, each, all, units, c.units-units.ensures.count, c.loop-unit.auto.unit-end)
