use Rattle.std.proofs.Common.{[], inl, inr, refl, ⊎_elim}
use Rattle.journal_disk.proofs.PublicLaws.{empty-opened, good-synced}
use Rattle.record_tests.proofs.tests.journals.empty_disk.Goals as goal

pub returns : goal.returns
returns c =
    rw c.new.ensures.made
    (good-synced _ _ c.args.config.now 0 _ [] refl (λ x now. ⊎_elim (λ is. is) (λ is. is) now) (empty-opened c.args.config.now 0))
