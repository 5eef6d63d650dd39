use Rattle.std.proofs.Common.{length, ap, refl, sym, subst}
use Rattle.cm_server.specs.inner.Begun.{HasCome}
use Rattle.cm_server.specs.inner.Links.{link_state}
use Rattle.cm_server.proofs.Ends.{come-on, goes-none}
use Rattle.cm_server.proofs.Out.{are-as, out-after, out-same}
use Rattle.cm_server.proofs.sessions.accepting.free_place.Goals as goal

pub loop-init : goal.loop-init
loop-init g c =
    let state = link_state g.K.Source.left g.K.Sink.taken g.K.Source.read_faults g.K.Sink.write_faults in
    let shows = g.C.Clock.shows in
    let config = c.args.shared.now.config in
    let clock = c.args.shared.now.clock in
    let term = c.args.shared.now.term in
    let world = c.args.shared.now.world in
    let gone = g.L.Listener.ended in
    let out = g.L.Listener.out in (
      goes-none state shows config clock term world c.args.root.now (gone c.args.listener.now) c.args.places.now.sessions.items c.args.counts.now,
      out-same (out c.args.listener.now) (length c.args.places.now.sessions.items),
      refl,
      refl,
    )

pub end_left-requires-clause-so : goal.end_left-requires-clause-so
end_left-requires-clause-so g c κs within =
    let state = link_state g.K.Source.left g.K.Sink.taken g.K.Source.read_faults g.K.Sink.write_faults in
    let shows = g.C.Clock.shows in
    let config = c.args.shared.now.config in
    let clock = c.args.shared.now.clock in
    let term = c.args.shared.now.term in
    let world = c.args.shared.now.world in
    let gone = g.L.Listener.ended in
    let out = g.L.Listener.out in
    subst (λ l. HasCome state shows config clock term world c.loop.root (gone c.loop.listener) l c.loop.counts) (sym c.note.ensures)
    (come-on state shows config clock term world c.args.root.now c.loop.root (gone c.args.listener.now) (gone c.loop.listener) c.args.places.now.sessions.items c.loop.places.sessions.items
    c.args.counts.now c.loop.counts c.requires.so c.loop.invariant.0)

pub end_left-requires-clause-out : goal.end_left-requires-clause-out
end_left-requires-clause-out g c κs within =
    let state = link_state g.K.Source.left g.K.Sink.taken g.K.Source.read_faults g.K.Sink.write_faults in
    let shows = g.C.Clock.shows in
    let config = c.args.shared.now.config in
    let clock = c.args.shared.now.clock in
    let term = c.args.shared.now.term in
    let world = c.args.shared.now.world in
    let gone = g.L.Listener.ended in
    let out = g.L.Listener.out in
    are-as (out c.loop.listener) (length c.loop.places.sessions.items) (length c.note.new.self.sessions.items) (sym (ap length c.note.ensures))
    (out-after (out c.args.listener.now) (out c.loop.listener) (length c.args.places.now.sessions.items) (length c.loop.places.sessions.items) c.requires.out c.loop.invariant.1)
