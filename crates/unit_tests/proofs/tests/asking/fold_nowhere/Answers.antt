use Rattle.cm_history.specs.declared.act.Entry.{Entry}
use Rattle.unit_core.proofs.PublicLaws.{first-any}
use Rattle.unit_tests.proofs.tests.asking.fold_nowhere.Goals as goal

pub fold-end-requires : goal.fold-end-requires
fold-end-requires c = first-any (λ (e : Entry). Unit {0}) _ (λ e. tt)
