use Rattle.std.proofs.Common.{length, suc, ap, refl, sym, subst, ◌∙◌}
use Rattle.cm_server.specs.inner.Begun.{GoesOn}
use Rattle.cm_server.specs.inner.Links.{link_state}
use Rattle.cm_server.proofs.Ends.{come-may, come-on, goes-ended, goes-none, goes-then}
use Rattle.cm_server.proofs.Out.{are-as, out-after, out-as, out-less, out-one, out-same, out-then}
use Rattle.cm_server.proofs.sessions.ending.end_in_order.Goals as goal

pub loop-one-init : goal.loop-one-init
loop-one-init g c =
    let state = link_state g.K.Source.left g.K.Sink.taken g.K.Source.read_faults g.K.Sink.write_faults in
    let shows = g.C.Clock.shows in
    let config = c.args.shared.now.config in
    let clock = c.args.shared.now.clock in
    let term = c.args.shared.now.term in
    let world = c.args.shared.now.world in
    let gone = g.L.Listener.ended in
    let out = g.L.Listener.out in (
      goes-none state shows config clock term world c.args.root.now (gone c.args.listener.now) c.args.places.now.sessions.items c.args.counts.now,
      out-same (out c.args.listener.now) (length c.args.places.now.sessions.items),
      refl,
      refl,
    )

pub end_one-requires-clause-may : goal.end_one-requires-clause-may
end_one-requires-clause-may g c κs within =
    let state = link_state g.K.Source.left g.K.Sink.taken g.K.Source.read_faults g.K.Sink.write_faults in
    let shows = g.C.Clock.shows in
    let config = c.args.shared.now.config in
    let clock = c.args.shared.now.clock in
    let term = c.args.shared.now.term in
    let world = c.args.shared.now.world in
    let gone = g.L.Listener.ended in
    let out = g.L.Listener.out in
    come-may state shows config clock term world c.loop-one.root (gone c.loop-one.listener) c.loop-one.places.sessions.items c.in-Some.one c.first_left.new.self.sessions.items c.loop-one.counts c.in-Some.ensures.some
    (come-on state shows config clock term world c.args.root.now c.loop-one.root (gone c.args.listener.now) (gone c.loop-one.listener) c.args.places.now.sessions.items c.loop-one.places.sessions.items
    c.args.counts.now c.loop-one.counts c.requires.so c.loop-one.invariant.0)

pub end_one-requires-clause-out : goal.end_one-requires-clause-out
end_one-requires-clause-out g c κs within =
    let state = link_state g.K.Source.left g.K.Sink.taken g.K.Source.read_faults g.K.Sink.write_faults in
    let shows = g.C.Clock.shows in
    let config = c.args.shared.now.config in
    let clock = c.args.shared.now.clock in
    let term = c.args.shared.now.term in
    let world = c.args.shared.now.world in
    let gone = g.L.Listener.ended in
    let out = g.L.Listener.out in
    let items = c.loop-one.places.sessions.items in
    let left = c.first_left.new.self.sessions.items in
    out-one (out c.loop-one.listener) (length left)
    (are-as (out c.loop-one.listener) (length items) (suc (length left)) (ap length c.in-Some.ensures.some)
    (out-after (out c.args.listener.now) (out c.loop-one.listener) (length c.args.places.now.sessions.items) (length items) c.requires.out c.loop-one.invariant.1))

pub loop-one-preserved : goal.loop-one-preserved
loop-one-preserved g c =
    let state = link_state g.K.Source.left g.K.Sink.taken g.K.Source.read_faults g.K.Sink.write_faults in
    let shows = g.C.Clock.shows in
    let config = c.args.shared.now.config in
    let clock = c.args.shared.now.clock in
    let term = c.args.shared.now.term in
    let world = c.args.shared.now.world in
    let gone = g.L.Listener.ended in
    let out = g.L.Listener.out in
    let items = c.loop-one.places.sessions.items in
    let left = c.first_left.new.self.sessions.items in
    let after = c.give_back.new.self.sessions.items in
    let same = c.give_back.ensures in
    let next = c.end_one.new in
    let step : GoesOn state shows config clock term world c.loop-one.root next.root (gone c.loop-one.listener) (gone next.listener) items left c.loop-one.counts next.counts =
    subst (λ l. GoesOn state shows config clock term world c.loop-one.root next.root (gone c.loop-one.listener) (gone next.listener) l left c.loop-one.counts next.counts) (sym c.in-Some.ensures.some)
    (goes-ended state shows config clock term world c.loop-one.root next.root (gone c.loop-one.listener) (gone next.listener) c.in-Some.one left c.loop-one.counts next.counts c.end_one.ensures.ended) in
    let both = goes-then state shows config clock term world c.args.root.now c.loop-one.root next.root (gone c.args.listener.now) (gone c.loop-one.listener) (gone next.listener)
    c.args.places.now.sessions.items items left c.args.counts.now c.loop-one.counts next.counts c.loop-one.invariant.0 step in
    let less = out-as (out c.loop-one.listener) (out next.listener) (suc (length left)) (length items) (length left) (length after) (sym (ap length c.in-Some.ensures.some)) (sym (ap length same))
    (out-less (out c.loop-one.listener) (out next.listener) (length left) c.end_one.ensures.out) in (
      subst (λ l. GoesOn state shows config clock term world c.args.root.now next.root (gone c.args.listener.now) (gone next.listener) c.args.places.now.sessions.items l
          c.args.counts.now next.counts) (sym same) both,
      out-then (out c.args.listener.now) (out c.loop-one.listener) (out next.listener) (length c.args.places.now.sessions.items) (length items) (length after) c.loop-one.invariant.1 less,
      c.end_one.ensures.coming ∙ c.loop-one.invariant.2,
      c.end_one.ensures.faults ∙ c.loop-one.invariant.3,
    )

pub returns-clause-goes_on : goal.returns-clause-goes_on
returns-clause-goes_on g c =
    let state = link_state g.K.Source.left g.K.Sink.taken g.K.Source.read_faults g.K.Sink.write_faults in
    let shows = g.C.Clock.shows in
    let config = c.args.shared.now.config in
    let clock = c.args.shared.now.clock in
    let term = c.args.shared.now.term in
    let world = c.args.shared.now.world in
    let gone = g.L.Listener.ended in
    let out = g.L.Listener.out in
    subst (λ l. GoesOn state shows config clock term world c.args.root.now c.loop-one.root (gone c.args.listener.now) (gone c.loop-one.listener) c.args.places.now.sessions.items l
    c.args.counts.now c.loop-one.counts) (sym c.in_default.ensures.none) c.loop-one.invariant.0

pub returns-clause-out : goal.returns-clause-out
returns-clause-out g c =
    let state = link_state g.K.Source.left g.K.Sink.taken g.K.Source.read_faults g.K.Sink.write_faults in
    let shows = g.C.Clock.shows in
    let config = c.args.shared.now.config in
    let clock = c.args.shared.now.clock in
    let term = c.args.shared.now.term in
    let world = c.args.shared.now.world in
    let gone = g.L.Listener.ended in
    let out = g.L.Listener.out in
    out-as (out c.args.listener.now) (out c.loop-one.listener) (length c.args.places.now.sessions.items) (length c.args.places.now.sessions.items) (length c.loop-one.places.sessions.items)
    (length c.first_left.new.self.sessions.items) refl (sym (ap length c.in_default.ensures.none)) c.loop-one.invariant.1
