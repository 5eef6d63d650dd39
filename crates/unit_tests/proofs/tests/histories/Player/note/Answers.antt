use Rattle.std.proofs.Common.{◌∙◌, ap, sym, subst}
use Rattle.plain_model.specs.Holds.{AreWithin}
use Rattle.plain_model.proofs.PublicLaws.{within-push}
use Rattle.unit_tests.specs.inner.Players.{Played}
use Rattle.unit_tests.proofs.tests.histories.Player.note.Goals as goal

pub returns : goal.returns
returns c =
    let config = c.args.config.now in
    let unit = c.args.next.now.unit in
    let was = subst (AreWithin config unit) (sym (ap (λ (p : Played). p.entries) c.self.view_is)) c.requires.player.2 in
    let within = within-push config unit c.self.inside.asked.entries c.args.next.now was (λ on. c.requires.limits) in (
      ap (λ (p : Played). p.config) c.self.view_is ∙ c.requires.player.0,
      ap (λ (p : Played). p.unit) c.self.view_is ∙ c.requires.player.1,
      subst (AreWithin config unit) (sym c.in_ok-add.ensures) within,
    )
