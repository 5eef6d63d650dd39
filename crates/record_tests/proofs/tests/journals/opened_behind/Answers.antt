use Rattle.std.proofs.Common.{refl, ⊎_elim}
use Rattle.journal_disk.proofs.PublicLaws.{good-synced}
use Rattle.record_tests.proofs.tests.journals.opened_behind.Goals as goal

-- what a crash leaves is a file without calls
pub reopened-requires-clause-good : goal.reopened-requires-clause-good
reopened-requires-clause-good c =
    let first = c.in_ok-image.image.first in
    rw c.in_ok-image.ensures.fresh
    (good-synced _ _ c.args.config.now 0 _ first refl (λ x now. ⊎_elim (λ is. is) (λ is. is) now) (c.requires.good.opens first c.in_ok-image.ensures.image))
