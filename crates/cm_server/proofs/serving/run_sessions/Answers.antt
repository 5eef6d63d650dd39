use Rattle.std.proofs.Common.{◌∙◌, List, ap, length, refl, subst, sym}
use Rattle.cm_server.specs.declared.serving.Ran.{Ran}
use Rattle.cm_server.specs.inner.Links.{in_hand, link_state}
use Rattle.cm_server.specs.inner.Running.{HasRan, HaveTalked, UnlessWanted}
use Rattle.cm_server.proofs.Ends.{come-first}
use Rattle.cm_server.proofs.Moving.{moved-none}
use Rattle.cm_server.proofs.Out.{out-back, out-ended, out-from, out-open}
use Rattle.cm_server.proofs.Ran.{none-in-hand, ran-sessions, so-moved, unless-wanted}
use Rattle.session.specs.declared.end.SessionEnd.{SessionEnd}
use Rattle.cm_server.proofs.serving.run_sessions.Goals as goal

pub end_all-requires-clause-so : goal.end_all-requires-clause-so
end_all-requires-clause-so g c κs within =
    let state = link_state g.K.Source.left g.K.Sink.taken g.K.Source.read_faults g.K.Sink.write_faults in
    let b = c.accept_all-end.ensures.begun in
    come-first state g.C.Clock.shows c.args.shared.now.config c.args.shared.now.clock c.args.shared.now.term c.args.shared.now.world c.next_nexus-first.result c.args.root.now c.accept_all-end.new.root
    (g.L.Listener.coming c.args.listener.now) b.1 (g.L.Listener.ended c.args.listener.now) (g.L.Listener.ended c.accept_all-end.new.listener) c.accept_all-end.new.places.sessions.items
    c.accept_all-end.new.counts b.0 b.4

pub returns-clause-talked : goal.returns-clause-talked
returns-clause-talked g c =
    let state = link_state g.K.Source.left g.K.Sink.taken g.K.Source.read_faults g.K.Sink.write_faults in
    let shows = g.C.Clock.shows in
    let config = c.args.shared.now.config in
    let clock = c.args.shared.now.clock in
    let term = c.args.shared.now.term in
    let world = c.args.shared.now.world in
    let gone = g.L.Listener.ended in
    let coming = g.L.Listener.coming in
    let first = c.next_nexus-first.result in
    let b = c.accept_all-end.ensures.begun in
    let end = c.accept_all-end.result.end in
    let so = c.end_all.ensures.goes_on first b.0 c.args.root.now (coming c.args.listener.now) b.1 (gone c.args.listener.now) b.4 in
    let ran : Ran = record { counts = c.end_all.new.counts; end = end } in
    let last = c.give_unserved.new.listener in
    subst (λ n. UnlessWanted ran.end ((ends : List SessionEnd) × HasRan term ran c.args.count ends
    × HaveTalked term world (shows clock) n c.args.root.now c.end_all.new.root (coming c.args.listener.now) (coming last)
    (gone c.args.listener.now) (gone last) ends)) c.next_nexus-first.ensures
    (ran-sessions state shows config clock term world first b.0 c.args.root.now c.end_all.new.root (coming c.args.listener.now) b.1 (gone c.args.listener.now) (gone c.end_all.new.listener)
    _ c.end_all.new.counts so refl ran c.args.count (coming last) (gone last) c.args.shared.now.same refl b.2
    (λ known. (let same = none-in-hand c.accept_all-end.result.unserved _ (c.accept_all-end.ensures.unserved known) c.give_unserved.ensures.same in
    (ap coming same ∙ c.end_all.ensures.coming ∙ sym (b.3 known), ap gone same))))

pub returns-clause-moved : goal.returns-clause-moved
returns-clause-moved g c =
    let state = link_state g.K.Source.left g.K.Sink.taken g.K.Source.read_faults g.K.Sink.write_faults in
    let shows = g.C.Clock.shows in
    let config = c.args.shared.now.config in
    let clock = c.args.shared.now.clock in
    let term = c.args.shared.now.term in
    let world = c.args.shared.now.world in
    let gone = g.L.Listener.ended in
    let coming = g.L.Listener.coming in
    let first = c.next_nexus-first.result in
    let b = c.accept_all-end.ensures.begun in
    let so = c.end_all.ensures.goes_on first b.0 c.args.root.now (coming c.args.listener.now) b.1 (gone c.args.listener.now) b.4 in
    so-moved state shows config clock term world first b.0 c.args.root.now c.end_all.new.root (coming c.args.listener.now) b.1 (gone c.args.listener.now) (gone c.end_all.new.listener)
    _ c.end_all.new.counts so refl

pub end_all-requires-clause-out : goal.end_all-requires-clause-out
end_all-requires-clause-out g c κs within =
    let out = g.L.Listener.out in
    out-open (out c.args.listener.now) (out c.accept_all-end.new.listener) (length c.accept_all-end.new.places.sessions.items) (in_hand c.accept_all-end.result.unserved) c.accept_all-end.ensures.out

pub give_unserved-requires-clause-out : goal.give_unserved-requires-clause-out
give_unserved-requires-clause-out g c κs within =
    let out = g.L.Listener.out in
    let hand = in_hand c.accept_all-end.result.unserved in
    out-from (out c.args.listener.now) (out c.end_all.new.listener) hand
    (out-ended (out c.args.listener.now) (out c.accept_all-end.new.listener) (out c.end_all.new.listener) (length c.accept_all-end.new.places.sessions.items) hand
    c.accept_all-end.ensures.out c.end_all.ensures.out)

pub returns-clause-links : goal.returns-clause-links
returns-clause-links g c =
    let out = g.L.Listener.out in
    let hand = in_hand c.accept_all-end.result.unserved in
    out-back (out c.args.listener.now) (out c.give_unserved.new.listener) 0
    (c.give_unserved.ensures.out (out c.args.listener.now)
    (out-ended (out c.args.listener.now) (out c.accept_all-end.new.listener) (out c.end_all.new.listener) (length c.accept_all-end.new.places.sessions.items) hand
    c.accept_all-end.ensures.out c.end_all.ensures.out)) refl

pub returns-in_default-clause-talked : goal.returns-in_default-clause-talked
returns-in_default-clause-talked g c = unless-wanted c.wanted.result.end _ c.wanted.ensures

pub returns-in_default-clause-moved : goal.returns-in_default-clause-moved
returns-in_default-clause-moved g c = moved-none c.args.shared.now.world c.args.root.now c.args.root.now c.requires.ready refl
