use Rattle.std.proofs.Common.{sym, subst}
use Rattle.plain_model.specs.Holds.{AreWithin}
use Rattle.plain_model.proofs.PublicLaws.{within-push}
use Rattle.unit_tests.proofs.tests.model.ask.Goals as goal

pub returns : goal.returns
returns c =
    let config = c.args.config.now in
    let before = subst (AreWithin config 0) (sym c.admit.ensures.same) c.requires.within in
    subst (AreWithin config 0) (sym c.append.ensures.added)
    (within-push config 0 c.admit.new.history.entries _ before (λ on. c.in_ok-admit.ensures.limits))
