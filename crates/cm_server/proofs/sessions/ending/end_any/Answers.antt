use Rattle.std.proofs.Common.{length, suc, ap, refl, sym, subst, ◌∙◌}
use Rattle.cm_server.specs.inner.Begun.{GoesOn}
use Rattle.cm_server.specs.inner.Links.{link_state}
use Rattle.cm_server.proofs.Ends.{come-may, come-on, goes-none, goes-then}
use Rattle.cm_server.proofs.Out.{are-as, out-after, out-as, out-same, out-then}
use Rattle.cm_server.proofs.sessions.ending.end_any.Goals as goal

pub loop-init : goal.loop-init
loop-init g c =
    let state = link_state g.K.Source.left g.K.Sink.taken g.K.Source.read_faults g.K.Sink.write_faults in
    let shows = g.C.Clock.shows in
    let config = c.args.shared.now.config in
    let clock = c.args.shared.now.clock in
    let term = c.args.shared.now.term in
    let world = c.args.shared.now.world in
    let gone = g.L.Listener.ended in
    let out = g.L.Listener.out in (
      goes-none state shows config clock term world c.args.root.now (gone c.args.listener.now) c.args.places.now.sessions.items c.args.counts.now,
      out-same (out c.args.listener.now) (length c.args.places.now.sessions.items),
      refl,
      refl,
    )

pub end_if_left-requires-clause-may : goal.end_if_left-requires-clause-may
end_if_left-requires-clause-may g c κs within =
    let state = link_state g.K.Source.left g.K.Sink.taken g.K.Source.read_faults g.K.Sink.write_faults in
    let shows = g.C.Clock.shows in
    let config = c.args.shared.now.config in
    let clock = c.args.shared.now.clock in
    let term = c.args.shared.now.term in
    let world = c.args.shared.now.world in
    let gone = g.L.Listener.ended in
    let out = g.L.Listener.out in
    come-may state shows config clock term world c.loop.root (gone c.loop.listener) c.loop.places.sessions.items c.in-Some.one c.first.new.self.sessions.items c.loop.counts c.in-Some.ensures.some
    (come-on state shows config clock term world c.args.root.now c.loop.root (gone c.args.listener.now) (gone c.loop.listener) c.args.places.now.sessions.items c.loop.places.sessions.items
    c.args.counts.now c.loop.counts c.requires.so c.loop.invariant.0)

pub end_if_left-requires-clause-out : goal.end_if_left-requires-clause-out
end_if_left-requires-clause-out g c κs within =
    let state = link_state g.K.Source.left g.K.Sink.taken g.K.Source.read_faults g.K.Sink.write_faults in
    let shows = g.C.Clock.shows in
    let config = c.args.shared.now.config in
    let clock = c.args.shared.now.clock in
    let term = c.args.shared.now.term in
    let world = c.args.shared.now.world in
    let gone = g.L.Listener.ended in
    let out = g.L.Listener.out in
    are-as (out c.loop.listener) (length c.loop.places.sessions.items) (suc (length c.first.new.self.sessions.items)) (ap length c.in-Some.ensures.some)
    (out-after (out c.args.listener.now) (out c.loop.listener) (length c.args.places.now.sessions.items) (length c.loop.places.sessions.items) c.requires.out c.loop.invariant.1)

pub returns-in_default-clause-goes_on : goal.returns-in_default-clause-goes_on
returns-in_default-clause-goes_on g c =
    let state = link_state g.K.Source.left g.K.Sink.taken g.K.Source.read_faults g.K.Sink.write_faults in
    let shows = g.C.Clock.shows in
    let config = c.args.shared.now.config in
    let clock = c.args.shared.now.clock in
    let term = c.args.shared.now.term in
    let world = c.args.shared.now.world in
    let gone = g.L.Listener.ended in
    let out = g.L.Listener.out in
    subst (λ l. GoesOn state shows config clock term world c.args.root.now c.loop.root (gone c.args.listener.now) (gone c.loop.listener) c.args.places.now.sessions.items l
    c.args.counts.now c.loop.counts) (c.in_default.ensures.none_before ∙ sym c.in_default.ensures.none) c.loop.invariant.0

pub returns-in_default-clause-out : goal.returns-in_default-clause-out
returns-in_default-clause-out g c =
    let state = link_state g.K.Source.left g.K.Sink.taken g.K.Source.read_faults g.K.Sink.write_faults in
    let shows = g.C.Clock.shows in
    let config = c.args.shared.now.config in
    let clock = c.args.shared.now.clock in
    let term = c.args.shared.now.term in
    let world = c.args.shared.now.world in
    let gone = g.L.Listener.ended in
    let out = g.L.Listener.out in
    out-as (out c.args.listener.now) (out c.loop.listener) (length c.args.places.now.sessions.items) (length c.args.places.now.sessions.items) (length c.loop.places.sessions.items)
    (length c.first.new.self.sessions.items) refl (ap length (c.in_default.ensures.none_before ∙ sym c.in_default.ensures.none)) c.loop.invariant.1

pub loop-preserved : goal.loop-preserved
loop-preserved g c =
    let state = link_state g.K.Source.left g.K.Sink.taken g.K.Source.read_faults g.K.Sink.write_faults in
    let shows = g.C.Clock.shows in
    let config = c.args.shared.now.config in
    let clock = c.args.shared.now.clock in
    let term = c.args.shared.now.term in
    let world = c.args.shared.now.world in
    let gone = g.L.Listener.ended in
    let out = g.L.Listener.out in
    let items = c.loop.places.sessions.items in
    let left = c.first.new.self.sessions.items in
    let next = c.end_if_left.new in
    let step : GoesOn state shows config clock term world c.loop.root next.root (gone c.loop.listener) (gone next.listener) items next.places.sessions.items c.loop.counts next.counts =
    subst (λ l. GoesOn state shows config clock term world c.loop.root next.root (gone c.loop.listener) (gone next.listener) l next.places.sessions.items c.loop.counts next.counts)
    (sym c.in-Some.ensures.some) c.end_if_left.ensures.goes_on in (
      goes-then state shows config clock term world c.args.root.now c.loop.root next.root (gone c.args.listener.now) (gone c.loop.listener) (gone next.listener)
          c.args.places.now.sessions.items items next.places.sessions.items c.args.counts.now c.loop.counts next.counts c.loop.invariant.0 step,
      out-then (out c.args.listener.now) (out c.loop.listener) (out next.listener) (length c.args.places.now.sessions.items) (length items) (length next.places.sessions.items) c.loop.invariant.1
          (out-as (out c.loop.listener) (out next.listener) (suc (length left)) (length items) (length next.places.sessions.items) (length next.places.sessions.items)
          (sym (ap length c.in-Some.ensures.some)) refl c.end_if_left.ensures.out),
      c.end_if_left.ensures.coming ∙ c.loop.invariant.2,
      c.end_if_left.ensures.faults ∙ c.loop.invariant.3,
    )
