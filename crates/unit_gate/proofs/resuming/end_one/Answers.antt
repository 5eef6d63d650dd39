use Rattle.std.proofs.Common.{ap, sym}
use Rattle.cm_history.specs.declared.act.Act.{Act}
use Rattle.unit_gate.specs.Opening.{ending_act, terminated_copy}
use Rattle.unit_gate.proofs.Ending.{form_by, ends-it, stands-ended, later-ended}
use Rattle.unit_gate.proofs.resuming.end_one.Goals as goal

pub close_copy-requires-clause-runs : goal.close_copy-requires-clause-runs
close_copy-requires-clause-runs c =
    ends-it c.args.told.now c.args.key c.requires.first (Act.Close c.args.key.id terminated_copy) (ap (λ t. ending_act (form_by t) c.args.key.id) (sym c.if-key.true))

pub end-requires-clause-runs : goal.end-requires-clause-runs
end-requires-clause-runs c =
    ends-it c.args.told.now c.args.key c.requires.first (Act.End c.args.key.id) (ap (λ t. ending_act (form_by t) c.args.key.id) (sym c.if-key.false))

pub returns-then-key-clause-stands : goal.returns-then-key-clause-stands
returns-then-key-clause-stands c =
    stands-ended c.args.told.now c.args.key c.requires.first (Act.Close c.args.key.id terminated_copy) (ap (λ t. ending_act (form_by t) c.args.key.id) (sym c.if-key.true))
    c.moment-moment.result c.moment-moment.ensures.told c.requires.stamps c.close_copy.new.self c.close_copy.ensures.stands

pub returns-then-key-clause-later : goal.returns-then-key-clause-later
returns-then-key-clause-later c =
    later-ended c.args.told.now c.args.key c.requires.first (Act.Close c.args.key.id terminated_copy) (ap (λ t. ending_act (form_by t) c.args.key.id) (sym c.if-key.true))
    c.moment-moment.result c.moment-moment.ensures.told c.requires.stamps c.close_copy.new.self c.close_copy.ensures.stands c.close_copy.ensures.config c.close_copy.ensures.unit c.requires.some.0 c.requires.some.1

pub returns-else-key-clause-stands : goal.returns-else-key-clause-stands
returns-else-key-clause-stands c =
    stands-ended c.args.told.now c.args.key c.requires.first (Act.End c.args.key.id) (ap (λ t. ending_act (form_by t) c.args.key.id) (sym c.if-key.false))
    c.moment-moment.result c.moment-moment.ensures.told c.requires.stamps c.end.new.self c.end.ensures.stands

pub returns-else-key-clause-later : goal.returns-else-key-clause-later
returns-else-key-clause-later c =
    later-ended c.args.told.now c.args.key c.requires.first (Act.End c.args.key.id) (ap (λ t. ending_act (form_by t) c.args.key.id) (sym c.if-key.false))
    c.moment-moment.result c.moment-moment.ensures.told c.requires.stamps c.end.new.self c.end.ensures.stands c.end.ensures.config c.end.ensures.unit c.requires.some.0 c.requires.some.1
