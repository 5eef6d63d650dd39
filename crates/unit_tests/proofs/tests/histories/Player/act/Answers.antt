use Rattle.std.proofs.Common.{◌∙◌, ap, sym, subst}
use Rattle.plain_model.specs.Holds.{AreWithin}
use Rattle.unit_tests.specs.inner.Players.{Played}
use Rattle.unit_tests.proofs.tests.histories.Player.act.Goals as goal

pub returns : goal.returns
returns c =
    let config = c.args.config.now in
    let unit = c.args.next.unit in
    let noted = c.in_ok-plain.ensures in (
      c.act-told.ensures.config ∙ ap (λ (p : Played). p.config) c.self.view_is ∙ noted.0,
      c.act-told.ensures.unit ∙ ap (λ (p : Played). p.unit) c.self.view_is ∙ noted.1,
      subst (AreWithin config unit) (sym (ap (λ (p : Played). p.entries) c.self.view_is)) noted.2,
    )
