use Rattle.unit_core.proofs.PublicLaws.{first-any}
use Rattle.unit_tests.proofs.tests.asking.fold.Goals as goal

pub fold-end-requires : goal.fold-end-requires
fold-end-requires c = first-any _ _ (λ e. tt)
