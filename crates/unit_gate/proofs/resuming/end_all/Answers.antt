use Rattle.std.proofs.Common.{◌≡◌, ◌-◌, ◌^◌, arith}
use Rattle.unit_gate.proofs.Ending.{ended-one, ended-full, ended-all}
use Rattle.unit_gate.proofs.resuming.end_all.Goals as goal

pub returns-in_default-clause-stands : goal.returns-in_default-clause-stands
returns-in_default-clause-stands c = ended-all c.args.told.now c.loop-told.told c.loop-told.invariant c.in_default.ensures.unended

pub loop-told-preserved : goal.loop-told-preserved
loop-told-preserved c =
    ended-one c.args.told.now c.loop-told.told c.end_one.new.told c.loop-told.invariant c.end_one.ensures.stands c.end_one.ensures.folded c.end_one.ensures.config c.end_one.ensures.unit

pub returns-clause-stands : goal.returns-clause-stands
returns-clause-stands c =
    let full : c.loop-told.told.image.last_stamp ≡ 2 ^ 64 - 1 = omega arith in
    ended-full c.args.told.now c.loop-told.told c.loop-told.invariant full
