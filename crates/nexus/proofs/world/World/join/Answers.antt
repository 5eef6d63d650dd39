use Rattle.std.proofs.Common.{◌≡◌, ap, sym, ◌∙◌, subst, false}
use Rattle.std.specs.List.{All}
use Rattle.nexus.specs.Worlds.{PassView, WorldView}
use Rattle.nexus.specs.inner.Gates.{config_of}
use Rattle.nexus.specs.Roots.{RootView, WasTaken}
use Rattle.nexus.specs.inner.Keeping.{gates_of, pass_view, root_view, KeepsRoot}
use Rattle.nexus.specs.inner.Rooms.{HasRoom}
use Rattle.nexus.proofs.Taking.{so-far-long}
use Rattle.nexus.proofs.Joined.{above-joined, root-takes, was-taken, all-free}
use Rattle.nexus.proofs.Keeping.{taken-fewer}
use Rattle.nexus.proofs.world.World.join.Goals as goal

pub note_joined-requires-clause-root : goal.note_joined-requires-clause-root
note_joined-requires-clause-root g c = ap (λ (v : RootView). v.register) c.root.view_is ∙ c.requires.root.register ∙ sym (ap (λ (v : WorldView). v.register) c.self.view_is)

pub note_joined-requires-clause-pass : goal.note_joined-requires-clause-pass
note_joined-requires-clause-pass g c = ap (λ (v : PassView). v.register) c.pass.view_is ∙ c.requires.pass.register ∙ sym (ap (λ (v : WorldView). v.register) c.self.view_is)

pub join_all-requires-clause-free : goal.join_all-requires-clause-free
join_all-requires-clause-free g c = all-free c.pass.inside.seats.items (subst (λ (v : PassView). All (λ h. h ≡ false) v.holds) (sym c.pass.view_is) c.requires.free)

pub invariant_of-root : goal.invariant_of-root
invariant_of-root g c =
    let gates = ap (λ (v : PassView). v.gates) c.pass.view_is ∙ c.requires.pass.gates ∙ sym c.requires.root.gates ∙ sym (ap (λ (v : RootView). v.gates) c.root.view_is) in
    let takes = root-takes c.root.inside.made c.root.inside.seqs.items c.root.inside.slip c.note_joined.new.root c.pass.inside.slip c.root.inside.seats.items c.pass.inside.seats.items c.join_all.new.seats.items
    c.pass.inside.actor c.pass.inside.seq c.pass.inside.last_stamp c.root.invariant.0 c.pass.invariant.0 gates c.note_joined.ensures c.join_all.ensures in
    let above = above-joined c.root.inside.made c.root.inside.seqs.items c.root.inside.slip c.note_joined.new.root c.pass.inside.slip c.root.inside.seats.items c.pass.inside.seats.items c.join_all.new.seats.items
    c.pass.inside.actor c.pass.inside.seq c.pass.inside.last_stamp c.root.invariant.0 c.pass.invariant.0 gates c.note_joined.ensures c.join_all.ensures c.root.invariant.1 in (
      subst (λ s. KeepsRoot (config_of (gates_of c.join_all.new.seats.items)) c.root.inside.made s c.note_joined.new.root c.join_all.new.seats.items) (sym c.note_seq.ensures) takes,
      above,
      subst (λ n. HasRoom n c.root.inside.rooms) (sym (so-far-long c.root.inside.seats.items c.pass.inside.seats.items c.join_all.new.seats.items 0 c.join_all.ensures)) c.root.invariant.2,
    )

pub returns-clause-taken : goal.returns-clause-taken
returns-clause-taken g c =
    let gates = ap (λ (v : PassView). v.gates) c.pass.view_is ∙ c.requires.pass.gates ∙ sym c.requires.root.gates ∙ sym (ap (λ (v : RootView). v.gates) c.root.view_is) in
    let taken = was-taken c.root.inside.made c.root.inside.seqs.items c.root.inside.slip c.note_joined.new.root c.pass.inside.slip c.root.inside.seats.items c.pass.inside.seats.items c.join_all.new.seats.items
    c.pass.inside.actor c.pass.inside.seq c.pass.inside.last_stamp c.root.invariant.0 c.pass.invariant.0 gates c.note_joined.ensures c.join_all.ensures in
    let after = root_view (config_of (gates_of c.join_all.new.seats.items)) c.root.inside.made c.note_joined.new.root c.join_all.new.seats.items in
    let before = root_view (config_of (gates_of c.root.inside.seats.items)) c.root.inside.made c.root.inside.slip c.root.inside.seats.items in
    subst (λ (v : RootView). WasTaken v after c.args.pass) c.root.view_is (subst (λ (v : PassView). WasTaken before after v) c.pass.view_is taken)

pub returns-clause-fewer : goal.returns-clause-fewer
returns-clause-fewer g c =
    let gates = ap (λ (v : PassView). v.gates) c.pass.view_is ∙ c.requires.pass.gates ∙ sym c.requires.root.gates ∙ sym (ap (λ (v : RootView). v.gates) c.root.view_is) in
    let taken = was-taken c.root.inside.made c.root.inside.seqs.items c.root.inside.slip c.note_joined.new.root c.pass.inside.slip c.root.inside.seats.items c.pass.inside.seats.items c.join_all.new.seats.items
    c.pass.inside.actor c.pass.inside.seq c.pass.inside.last_stamp c.root.invariant.0 c.pass.invariant.0 gates c.note_joined.ensures c.join_all.ensures in
    let after = root_view (config_of (gates_of c.join_all.new.seats.items)) c.root.inside.made c.note_joined.new.root c.join_all.new.seats.items in
    let before = root_view (config_of (gates_of c.root.inside.seats.items)) c.root.inside.made c.root.inside.slip c.root.inside.seats.items in
    taken-fewer c.args.root.now after c.args.pass (subst (λ (v : RootView). WasTaken v after c.args.pass) c.root.view_is (subst (λ (v : PassView). WasTaken before after v) c.pass.view_is taken))
