use Rattle.std.proofs.Common.{◌≡◌, ◌∷◌, length, refl, suc, ap, sym, subst, ◌∙◌, length-append, arith, []}
use Rattle.cm_server.specs.declared.term.Term.{Term}
use Rattle.cm_server.specs.inner.Begun.{GoesOn}
use Rattle.cm_server.specs.inner.Links.{link_state}
use Rattle.cm_server.proofs.Ends.{goes-ended, goes-passed}
use Rattle.cm_server.proofs.Out.{out-as, out-less, out-one, out-same}
use Rattle.cm_server.proofs.sessions.ending.end_if_left.Goals as goal

pub returns-then-not-was_left-clause-goes_on : goal.returns-then-not-was_left-clause-goes_on
returns-then-not-was_left-clause-goes_on g c =
    let state = link_state g.K.Source.left g.K.Sink.taken g.K.Source.read_faults g.K.Sink.write_faults in
    let shows = g.C.Clock.shows in
    let config = c.args.shared.now.config in
    let clock = c.args.shared.now.clock in
    let term = c.args.shared.now.term in
    let world = c.args.shared.now.world in
    let gone = g.L.Listener.ended in
    let out = g.L.Listener.out in
    let given = gone c.args.listener.now in
    let items = c.args.places.now.sessions.items in
    subst (λ l. GoesOn state shows config clock term world c.args.root.now c.args.root.now given given (c.args.one ∷ items) l c.args.counts.now c.args.counts.now) (sym c.add.ensures)
    (goes-passed state shows config clock term world c.args.root.now given c.args.one items c.args.counts.now
    (λ counted. (let both : Term.Counted ≡ Term.Open = sym counted ∙ c.requires.open in cc)))

pub returns-then-not-was_left-clause-out : goal.returns-then-not-was_left-clause-out
returns-then-not-was_left-clause-out g c =
    let state = link_state g.K.Source.left g.K.Sink.taken g.K.Source.read_faults g.K.Sink.write_faults in
    let shows = g.C.Clock.shows in
    let config = c.args.shared.now.config in
    let clock = c.args.shared.now.clock in
    let term = c.args.shared.now.term in
    let world = c.args.shared.now.world in
    let gone = g.L.Listener.ended in
    let out = g.L.Listener.out in
    let items = c.args.places.now.sessions.items in
    let long : suc (length items) ≡ length c.add.new.self.sessions.items = (let l = length-append items (c.args.one ∷ []) in let e = ap length c.add.ensures in omega (arith, l, e)) in
    out-as (out c.args.listener.now) (out c.args.listener.now) (suc (length items)) (suc (length items)) (suc (length items)) (length c.add.new.self.sessions.items) refl long
    (out-same (out c.args.listener.now) (suc (length items)))

pub end_one-requires-clause-out : goal.end_one-requires-clause-out
end_one-requires-clause-out g c κs within = out-one (g.L.Listener.out c.args.listener.now) (length c.args.places.now.sessions.items) c.requires.out

pub returns-clause-goes_on : goal.returns-clause-goes_on
returns-clause-goes_on g c =
    let state = link_state g.K.Source.left g.K.Sink.taken g.K.Source.read_faults g.K.Sink.write_faults in
    let shows = g.C.Clock.shows in
    let config = c.args.shared.now.config in
    let clock = c.args.shared.now.clock in
    let term = c.args.shared.now.term in
    let world = c.args.shared.now.world in
    let gone = g.L.Listener.ended in
    let out = g.L.Listener.out in
    let given = gone c.args.listener.now in
    let later = gone c.end_one.new.listener in
    let items = c.args.places.now.sessions.items in
    subst (λ l. GoesOn state shows config clock term world c.args.root.now c.end_one.new.root given later (c.args.one ∷ items) l c.args.counts.now c.end_one.new.counts) (sym c.give_back.ensures)
    (goes-ended state shows config clock term world c.args.root.now c.end_one.new.root given later c.args.one items c.args.counts.now c.end_one.new.counts c.end_one.ensures.ended)

pub returns-clause-out : goal.returns-clause-out
returns-clause-out g c =
    let state = link_state g.K.Source.left g.K.Sink.taken g.K.Source.read_faults g.K.Sink.write_faults in
    let shows = g.C.Clock.shows in
    let config = c.args.shared.now.config in
    let clock = c.args.shared.now.clock in
    let term = c.args.shared.now.term in
    let world = c.args.shared.now.world in
    let gone = g.L.Listener.ended in
    let out = g.L.Listener.out in
    let items = c.args.places.now.sessions.items in
    out-as (out c.args.listener.now) (out c.end_one.new.listener) (suc (length items)) (suc (length items)) (length items) (length c.give_back.new.self.sessions.items) refl
    (sym (ap length c.give_back.ensures)) (out-less (out c.args.listener.now) (out c.end_one.new.listener) (length items) c.end_one.ensures.out)
