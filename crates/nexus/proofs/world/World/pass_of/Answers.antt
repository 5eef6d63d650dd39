use Rattle.std.proofs.Common.{◌≡◌, ap, sym, ◌∙◌, subst, length, ◌++◌, ◌∷◌, []}
use Rattle.merged_history.specs.PassRules.{MayPass, made_after}
use Rattle.merged_history.specs.Seats.{PassState, RootState, own_of, ticket_of}
use Rattle.nexus.specs.Worlds.{WorldView}
use Rattle.nexus.specs.inner.Gates.{config_of}
use Rattle.nexus.specs.Roots.{RootView, WasMade}
use Rattle.nexus.specs.inner.Keeping.{gates_of, pass_view, root_view, IsPumpOf, KeepsPass, KeepsRoot}
use Rattle.nexus.specs.inner.Rooms.{HasRoom}
use Rattle.nexus.proofs.Splitting.{split-long}
use Rattle.nexus.proofs.Making.{above-now, fresh-safe, pass-keeps, root-keeps, was-made}
use Rattle.nexus.proofs.world.World.pass_of.Goals as goal

pub invariant_of-result : goal.invariant_of-result
invariant_of-result g c =
    let gates = ap (λ (v : RootView). v.gates) c.root.view_is ∙ c.requires.root.gates ∙ sym (ap (λ (v : WorldView). v.gates) c.self.view_is) in
    let config = ap config_of gates ∙ ap (λ (v : WorldView). v.config) c.self.view_is in
    let may = subst (λ (v : RootView). MayPass c.args.actor v.made v.out) (sym c.root.view_is) c.requires.may in
    let pump = subst (λ k. IsPumpOf k c.args.actor) (sym config) c.requires.pump in
    let seq = c.requires.seq ∙ ap (λ (v : RootView). length (own_of c.args.actor v.joined)) (sym c.root.view_is) in
    let keeps = pass-keeps c.root.inside.made c.root.inside.seqs.items c.root.inside.slip c.root.inside.seats.items c.split_all.new.seats.items c.split_all.new.fresh.items c.root.invariant.0 c.split_all.ensures
    c.args.actor may pump c.args.seq seq in (
      subst (λ (p : PassState). KeepsPass (config_of (gates_of c.split_all.new.fresh.items)) p.ticket c.split_all.new.fresh.items c.args.actor c.args.seq 0) (sym c.split-slip.ensures.pass) keeps,
      fresh-safe c.root.inside.made c.root.inside.seqs.items c.root.inside.slip c.root.inside.seats.items c.split_all.new.seats.items c.split_all.new.fresh.items c.root.invariant.0 c.split_all.ensures c.args.actor _ c.root.invariant.1,
    )

pub invariant_of-root : goal.invariant_of-root
invariant_of-root g c =
    let gates = ap (λ (v : RootView). v.gates) c.root.view_is ∙ c.requires.root.gates ∙ sym (ap (λ (v : WorldView). v.gates) c.self.view_is) in
    let config = ap config_of gates ∙ ap (λ (v : WorldView). v.config) c.self.view_is in
    let may = subst (λ (v : RootView). MayPass c.args.actor v.made v.out) (sym c.root.view_is) c.requires.may in
    let pump = subst (λ k. IsPumpOf k c.args.actor) (sym config) c.requires.pump in
    let seq = c.requires.seq ∙ ap (λ (v : RootView). length (own_of c.args.actor v.joined)) (sym c.root.view_is) in
    let keeps = root-keeps c.root.inside.made c.root.inside.seqs.items c.root.inside.slip c.root.inside.seats.items c.split_all.new.seats.items c.split_all.new.fresh.items c.root.invariant.0 c.split_all.ensures
    c.args.actor may pump c.args.seq seq in (
      subst (λ m. KeepsRoot (config_of (gates_of c.split_all.new.seats.items)) m c.root.inside.seqs.items c.split-slip.new.root c.split_all.new.seats.items) (sym c.made_after-root-inside.ensures)
          (subst (λ (r : RootState). KeepsRoot (config_of (gates_of c.split_all.new.seats.items)) (made_after c.args.actor c.root.inside.made) c.root.inside.seqs.items r c.split_all.new.seats.items) (sym c.split-slip.ensures.root) keeps),
      above-now c.root.inside.made c.root.inside.seqs.items c.root.inside.slip c.root.inside.seats.items c.split_all.new.seats.items c.split_all.new.fresh.items c.root.invariant.0 c.split_all.ensures c.args.actor c.root.invariant.1,
      subst (λ n. HasRoom n c.root.inside.rooms) (sym (split-long c.root.inside.seats.items c.split_all.new.seats.items c.split_all.new.fresh.items (length c.root.inside.seats.items) c.split_all.ensures).now_is) c.root.invariant.2,
    )

pub returns-clause-made : goal.returns-clause-made
returns-clause-made g c =
    let gates = ap (λ (v : RootView). v.gates) c.root.view_is ∙ c.requires.root.gates ∙ sym (ap (λ (v : WorldView). v.gates) c.self.view_is) in
    let config = ap config_of gates ∙ ap (λ (v : WorldView). v.config) c.self.view_is in
    let register = ap (λ (v : RootView). v.register) c.root.view_is ∙ c.requires.root.register ∙ sym (ap (λ (v : WorldView). v.register) c.self.view_is) in
    let may = subst (λ (v : RootView). MayPass c.args.actor v.made v.out) (sym c.root.view_is) c.requires.may in
    let pump = subst (λ k. IsPumpOf k c.args.actor) (sym config) c.requires.pump in
    let seq = c.requires.seq ∙ ap (λ (v : RootView). length (own_of c.args.actor v.joined)) (sym c.root.view_is) in
    let old = c.root.inside.seats.items in
    let now = c.split_all.new.seats.items in
    let fresh = c.split_all.new.fresh.items in
    let made = was-made c.root.inside.made c.root.inside.seqs.items c.root.inside.slip old now fresh c.root.invariant.0 c.split_all.ensures c.args.actor may pump c.args.seq seq in
    let pass_is = c.split-slip.ensures.pass ∙ ap (λ r. record { register = r; ticket = ticket_of c.args.actor c.root.inside.slip.joined }) (sym register) in
    let before = root_view (config_of (gates_of old)) c.root.inside.made c.root.inside.slip old in
    let pass = pass_view (config_of (gates_of fresh)) c.split-slip.result fresh in
    subst (λ (v : RootView). WasMade v (root_view (config_of (gates_of now)) c.made_after-root-inside.result c.split-slip.new.root now) pass c.args.actor) c.root.view_is
    (subst (λ m. WasMade before (root_view (config_of (gates_of now)) m c.split-slip.new.root now) pass c.args.actor) (sym c.made_after-root-inside.ensures)
    (subst (λ (r : RootState). WasMade before (root_view (config_of (gates_of now)) (made_after c.args.actor c.root.inside.made) r now) pass c.args.actor) (sym c.split-slip.ensures.root)
    (subst (λ (p : PassState). WasMade before
    (root_view (config_of (gates_of now)) (made_after c.args.actor c.root.inside.made) (record c.root.inside.slip { out = c.root.inside.slip.out ++ ticket_of c.args.actor c.root.inside.slip.joined ∷ [] }) now)
    (pass_view (config_of (gates_of fresh)) p fresh) c.args.actor) (sym pass_is) made)))
