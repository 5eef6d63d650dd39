use Rattle.std.proofs.Common.{ap, ◌∙◌, subst}
use Rattle.nexus.specs.Worlds.{PassView}
use Rattle.nexus.specs.Holding.{HoldView}
use Rattle.nexus.specs.inner.Keeping.{AreGates}
use Rattle.nexus.proofs.Counting.{count-seen}
use Rattle.nexus.proofs.holding.Hold.count.Goals as goal

pub returns : goal.returns
returns g c =
    count-seen c.args.pass.now c.args.self.now c.look.result.now c.count.result
    (subst (λ (p : PassView). AreGates p.config p.gates) c.pass.view_is c.pass.invariant.0.gates_are) c.requires
    (c.look.ensures ∙ ap (λ (h : HoldView). h.turn) c.self.view_is) c.count.ensures
