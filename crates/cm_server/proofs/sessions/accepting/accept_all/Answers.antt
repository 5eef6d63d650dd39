use Rattle.std.proofs.Common.{◌≤◌, ◌<◌, ◌+◌, ◌∷◌, [], length, length-append, ap, arith, refl, sym, subst, ◌∙◌}
use Rattle.cm_server.specs.declared.sessions.accepting.AcceptEnd.{AcceptEnd}
use Rattle.cm_server.specs.declared.sessions.accepting.Accepted.{Accepted}
use Rattle.cm_server.specs.inner.Begun.{SoFar, WereBegun}
use Rattle.cm_server.specs.inner.Links.{in_hand, link_state}
use Rattle.cm_server.proofs.Begins.{so-none, so-begun, were-less}
use Rattle.cm_server.proofs.Ends.{come-first}
use Rattle.cm_server.proofs.Out.{out-bare, out-from, out-hand, out-more, out-none}
use Rattle.cm_server.proofs.sessions.accepting.accept_all.Goals as goal

pub loop-index-init : goal.loop-index-init
loop-index-init g c =
    let state = link_state g.K.Source.left g.K.Sink.taken g.K.Source.read_faults g.K.Sink.write_faults in
    let shows = g.C.Clock.shows in
    let config = c.args.shared.now.config in
    let clock = c.args.shared.now.clock in
    let term = c.args.shared.now.term in
    let world = c.args.shared.now.world in
    let gone = g.L.Listener.ended in
    let coming = g.L.Listener.coming in
    let out = g.L.Listener.out in
    let few : c.args.first ≤ 4_294_967_295 = (let f = c.requires.few in omega (arith, f)) in (
      so-none state shows config clock term world c.args.root.now (coming c.args.listener.now) (gone c.args.listener.now) c.args.places.now.sessions.items c.args.counts.now c.args.first
          c.requires.ready c.requires.first few c.requires.none c.requires.counts,
      out-none (out c.args.listener.now) (length c.args.places.now.sessions.items) (ap length c.requires.none),
      refl,
    )

pub accept_one-requires-clause-ready : goal.accept_one-requires-clause-ready
accept_one-requires-clause-ready g c κs within =
    let state = link_state g.K.Source.left g.K.Sink.taken g.K.Source.read_faults g.K.Sink.write_faults in
    let shows = g.C.Clock.shows in
    let config = c.args.shared.now.config in
    let clock = c.args.shared.now.clock in
    let term = c.args.shared.now.term in
    let world = c.args.shared.now.world in
    let gone = g.L.Listener.ended in
    let coming = g.L.Listener.coming in
    let out = g.L.Listener.out in
    let first = c.args.first in
    let number = c.loop-index.index in
    let zero = c.args.root.now in
    let at = c.free_place.new in
    let so = c.free_place.ensures.goes_on first number zero (coming c.args.listener.now) (coming c.loop-index.listener) (gone c.args.listener.now) c.loop-index.invariant.0 in
    so.ready

pub accept_one-requires-clause-number : goal.accept_one-requires-clause-number
accept_one-requires-clause-number g c κs within =
    let state = link_state g.K.Source.left g.K.Sink.taken g.K.Source.read_faults g.K.Sink.write_faults in
    let shows = g.C.Clock.shows in
    let config = c.args.shared.now.config in
    let clock = c.args.shared.now.clock in
    let term = c.args.shared.now.term in
    let world = c.args.shared.now.world in
    let gone = g.L.Listener.ended in
    let coming = g.L.Listener.coming in
    let out = g.L.Listener.out in
    let first = c.args.first in
    let number = c.loop-index.index in
    let zero = c.args.root.now in
    let at = c.free_place.new in
    let so = c.free_place.ensures.goes_on first number zero (coming c.args.listener.now) (coming c.loop-index.listener) (gone c.args.listener.now) c.loop-index.invariant.0 in
    so.made

pub returns-in-Err-clause-begun : goal.returns-in-Err-clause-begun
returns-in-Err-clause-begun g c =
    let state = link_state g.K.Source.left g.K.Sink.taken g.K.Source.read_faults g.K.Sink.write_faults in
    let shows = g.C.Clock.shows in
    let config = c.args.shared.now.config in
    let clock = c.args.shared.now.clock in
    let term = c.args.shared.now.term in
    let world = c.args.shared.now.world in
    let gone = g.L.Listener.ended in
    let coming = g.L.Listener.coming in
    let out = g.L.Listener.out in
    let first = c.args.first in
    let number = c.loop-index.index in
    let zero = c.args.root.now in
    let at = c.free_place.new in
    let so = c.free_place.ensures.goes_on first number zero (coming c.args.listener.now) (coming c.loop-index.listener) (gone c.args.listener.now) c.loop-index.invariant.0 in
    let end = c.in-Err.end in (
      number,
      coming c.loop-index.listener,
      were-less term end.end c.args.count number c.in-Err.ensures.more c.in-Err.ensures.asked c.loop-index-test.true,
      λ known. sym (c.in-Err.ensures.coming known ∙ c.free_place.ensures.coming),
      subst (λ r. SoFar state shows config clock term world first zero r (coming c.args.listener.now) (coming c.loop-index.listener) (gone c.args.listener.now) (gone c.accept_one.new.listener)
          at.places.sessions.items at.counts number) (sym c.in-Err.ensures.refused)
          (subst (λ o. SoFar state shows config clock term world first zero at.root (coming c.args.listener.now) (coming c.loop-index.listener) (gone c.args.listener.now) o
          at.places.sessions.items at.counts number) (sym c.accept_one.ensures.ended) so),
    )

pub loop-index-preserved : goal.loop-index-preserved
loop-index-preserved g c =
    let state = link_state g.K.Source.left g.K.Sink.taken g.K.Source.read_faults g.K.Sink.write_faults in
    let shows = g.C.Clock.shows in
    let config = c.args.shared.now.config in
    let clock = c.args.shared.now.clock in
    let term = c.args.shared.now.term in
    let world = c.args.shared.now.world in
    let gone = g.L.Listener.ended in
    let coming = g.L.Listener.coming in
    let out = g.L.Listener.out in
    let first = c.args.first in
    let number = c.loop-index.index in
    let zero = c.args.root.now in
    let at = c.free_place.new in
    let so = c.free_place.ensures.goes_on first number zero (coming c.args.listener.now) (coming c.loop-index.listener) (gone c.args.listener.now) c.loop-index.invariant.0 in
    let here = coming at.listener in
    let next = c.accept_one.new in
    let is = c.in-Ok.ensures.begun in
    let few : first + number < 4_294_967_295 = (let f = c.requires.few in let t = c.loop-index-test.true in omega (arith, f, t)) in
    let came : SoFar state shows config clock term world first zero at.root (coming c.args.listener.now) here (gone c.args.listener.now) (gone next.listener) at.places.sessions.items at.counts number =
    subst (λ r. SoFar state shows config clock term world first zero at.root (coming c.args.listener.now) r (gone c.args.listener.now) (gone next.listener) at.places.sessions.items at.counts number)
    (sym c.free_place.ensures.coming)
    (subst (λ o. SoFar state shows config clock term world first zero at.root (coming c.args.listener.now) (coming c.loop-index.listener) (gone c.args.listener.now) o
    at.places.sessions.items at.counts number) (sym c.accept_one.ensures.ended) so) in (
      so-begun state shows config clock term world first zero at.root next.root (coming c.args.listener.now) here (coming next.listener) (gone c.args.listener.now) (gone next.listener)
          at.places.sessions.items c.add.new.self.sessions.items (record { place = c.in-Some.place; begun = c.in-Ok.begun }) at.counts number is.0 came few is.1 is.2 c.add.ensures,
      out-more (out c.args.listener.now) (out at.listener) (out next.listener) (length at.places.sessions.items) (length c.add.new.self.sessions.items)
          (c.free_place.ensures.out (out c.args.listener.now) c.loop-index.invariant.1) c.in-Ok.ensures.out
          (ap length c.add.ensures ∙ length-append at.places.sessions.items (record { place = c.in-Some.place; begun = c.in-Ok.begun } ∷ [])),
      c.in-Ok.ensures.sound ∙ c.free_place.ensures.faults ∙ c.loop-index.invariant.2,
    )

pub free_place-requires-clause-so : goal.free_place-requires-clause-so
free_place-requires-clause-so g c κs within =
    let state = link_state g.K.Source.left g.K.Sink.taken g.K.Source.read_faults g.K.Sink.write_faults in
    let shows = g.C.Clock.shows in
    let config = c.args.shared.now.config in
    let clock = c.args.shared.now.clock in
    let term = c.args.shared.now.term in
    let world = c.args.shared.now.world in
    let gone = g.L.Listener.ended in
    let coming = g.L.Listener.coming in
    let out = g.L.Listener.out in
    come-first state shows config clock term world c.args.first c.args.root.now c.loop-index.root (coming c.args.listener.now) (coming c.loop-index.listener)
    (gone c.args.listener.now) (gone c.loop-index.listener) c.loop-index.places.sessions.items c.loop-index.counts c.loop-index.index c.loop-index.invariant.0

pub free_place-requires-clause-out : goal.free_place-requires-clause-out
free_place-requires-clause-out g c κs within =
    let state = link_state g.K.Source.left g.K.Sink.taken g.K.Source.read_faults g.K.Sink.write_faults in
    let shows = g.C.Clock.shows in
    let config = c.args.shared.now.config in
    let clock = c.args.shared.now.clock in
    let term = c.args.shared.now.term in
    let world = c.args.shared.now.world in
    let gone = g.L.Listener.ended in
    let coming = g.L.Listener.coming in
    let out = g.L.Listener.out in
    out-from (out c.args.listener.now) (out c.loop-index.listener) (length c.loop-index.places.sessions.items) c.loop-index.invariant.1

pub returns-in-Err-clause-out : goal.returns-in-Err-clause-out
returns-in-Err-clause-out g c =
    let state = link_state g.K.Source.left g.K.Sink.taken g.K.Source.read_faults g.K.Sink.write_faults in
    let shows = g.C.Clock.shows in
    let config = c.args.shared.now.config in
    let clock = c.args.shared.now.clock in
    let term = c.args.shared.now.term in
    let world = c.args.shared.now.world in
    let gone = g.L.Listener.ended in
    let coming = g.L.Listener.coming in
    let out = g.L.Listener.out in
    let at = c.free_place.new in
    out-hand (out c.args.listener.now) (out at.listener) (out c.accept_one.new.listener) (length at.places.sessions.items) (in_hand c.in-Err.end.unserved)
    (c.free_place.ensures.out (out c.args.listener.now) c.loop-index.invariant.1) c.in-Err.ensures.stays

pub returns-in_default-clause-begun : goal.returns-in_default-clause-begun
returns-in_default-clause-begun g c =
    let state = link_state g.K.Source.left g.K.Sink.taken g.K.Source.read_faults g.K.Sink.write_faults in
    let shows = g.C.Clock.shows in
    let config = c.args.shared.now.config in
    let clock = c.args.shared.now.clock in
    let term = c.args.shared.now.term in
    let world = c.args.shared.now.world in
    let gone = g.L.Listener.ended in
    let coming = g.L.Listener.coming in
    let out = g.L.Listener.out in
    let first = c.args.first in
    let number = c.loop-index.index in
    let zero = c.args.root.now in
    let at = c.free_place.new in
    let so = c.free_place.ensures.goes_on first number zero (coming c.args.listener.now) (coming c.loop-index.listener) (gone c.args.listener.now) c.loop-index.invariant.0 in (
      number,
      coming c.loop-index.listener,
      subst (λ (e : AcceptEnd). WereBegun term e c.args.count number) (sym (ap (λ (a : Accepted _). a.end) c.served.ensures)) (c.in_default.ensures.asked, c.loop-index-test.true),
      λ known. sym c.free_place.ensures.coming,
      so,
    )

pub returns-in_default-clause-out : goal.returns-in_default-clause-out
returns-in_default-clause-out g c =
    let out = g.L.Listener.out in
    let at = c.free_place.new in
    out-bare (out c.args.listener.now) (out at.listener) (length at.places.sessions.items) (in_hand c.served.result.unserved)
    (c.free_place.ensures.out (out c.args.listener.now) c.loop-index.invariant.1) (ap (λ (a : Accepted _). in_hand a.unserved) c.served.ensures)
