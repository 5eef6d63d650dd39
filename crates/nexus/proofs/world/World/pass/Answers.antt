use Rattle.std.proofs.Common.{◌≡◌, ◌+◌, length, IfOk, ap, subst}
use Rattle.cm_history.specs.declared.act.Actor.TheVariants.{Nexus}
use Rattle.nexus.specs.Worlds.{IsFreePass}
use Rattle.nexus.specs.Roots.{RootView, WasMade}
use Rattle.nexus.proofs.Keeping.{made-free, made-more, if-ok, on-ok}
use Rattle.nexus.proofs.world.World.pass.Goals as goal

pub returns-clause-free : goal.returns-clause-free
returns-clause-free g c =
    let n = c.pass_of.inside.made in
    subst (λ k. IfOk c.pass_of-2.result (λ p. IsFreePass c.args.self.now k p)) (ap (λ (v : RootView). v.made) c.pass_of.view_is)
    (if-ok c.pass_of-2.result (λ p. WasMade c.args.root.now c.pass_of-2.new.root p (Nexus n)) (λ p. IsFreePass c.args.self.now n p) c.pass_of-2.ensures.made
    (λ p made. made-free c.args.self.now c.args.root.now c.pass_of-2.new.root p n c.requires.root made))

pub returns-clause-more : goal.returns-clause-more
returns-clause-more g c =
    let n = c.pass_of.inside.made in
    on-ok c.pass_of-2.result (λ p. WasMade c.args.root.now c.pass_of-2.new.root p (Nexus n)) (length c.pass_of-2.new.root.out ≡ length c.args.root.now.out + 1) c.pass_of-2.ensures.made
    (λ p made. made-more c.args.root.now c.pass_of-2.new.root p (Nexus n) made)
