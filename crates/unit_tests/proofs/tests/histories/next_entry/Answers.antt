use Rattle.std.proofs.Common.{◌≡◌, true, sym, subst}
use Rattle.cm_history.specs.declared.act.Entry.{Entry}
use Rattle.cm_history.specs.Legal.{may_ask}
use Rattle.unit_tests.proofs.tests.histories.next_entry.Goals as goal

pub returns-clause-may : goal.returns-clause-may
returns-clause-may c =
    subst (λ (e : Entry). may_ask c.args.number e.actor e.act ≡ true) (sym c.entry-2.ensures) (c.in_ok-act.ensures c.args.number c.below-2.result)
