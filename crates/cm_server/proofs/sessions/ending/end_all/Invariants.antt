use Rattle.std.proofs.Common.{◌≡◌, length}
use Rattle.cm_server.specs.inner.Begun.{GoesOn}
use Rattle.cm_server.specs.inner.Links.{StayOut, link_state}
use Rattle.cm_server.proofs.sessions.ending.end_all.Given as goal

abbrev pub invariant-loop-one : goal.invariant-loop-one
invariant-loop-one g l =
    GoesOn (link_state g.K.Source.left g.K.Sink.taken g.K.Source.read_faults g.K.Sink.write_faults) g.C.Clock.shows l.shared.config l.shared.clock l.shared.term l.shared.world
    l.initial.root l.root (g.L.Listener.ended l.initial.listener) (g.L.Listener.ended l.listener) l.initial.places.sessions.items l.places.sessions.items l.initial.counts l.counts
    × StayOut (g.L.Listener.out l.initial.listener) (g.L.Listener.out l.listener) (length l.initial.places.sessions.items) (length l.places.sessions.items)
    × (g.L.Listener.coming l.listener ≡ g.L.Listener.coming l.initial.listener)
    × (g.L.Listener.accept_faults l.listener ≡ g.L.Listener.accept_faults l.initial.listener)

abbrev pub decreases-loop-one : goal.decreases-loop-one
decreases-loop-one g l = length l.places.sessions.items
