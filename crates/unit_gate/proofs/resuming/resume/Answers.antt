use Rattle.std.proofs.Common.{subst}
use Rattle.unit_core.specs.UnitState.{Stands}
use Rattle.unit_gate.specs.Opening.{opening_entries}
use Rattle.unit_gate.proofs.resuming.resume.Goals as goal

pub returns-clause-stands : goal.returns-clause-stands
returns-clause-stands c =
    let told = c.in_ok-told.ensures in
    let h = c.args.history.now.entries in
    subst (λ u. Stands c.end_all.new.told (opening_entries c.args.config.now u h)) told.its_unit
    (subst (λ k. Stands c.end_all.new.told (opening_entries k c.in_ok-told.told.unit h)) told.config (c.end_all.ensures.stands h told.stands))
