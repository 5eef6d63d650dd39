use Rattle.std.proofs.Common.{◌≡◌, ◌+◌, length}
use Rattle.std.specs.Prelude.{option_map}
use Rattle.cm_server.specs.inner.Begun.{SoFar}
use Rattle.cm_server.specs.inner.Links.{link_state}
use Rattle.cm_server.proofs.sessions.accepting.accept_all.Given as goal

abbrev pub invariant-loop-index : goal.invariant-loop-index
invariant-loop-index g l =
    SoFar (link_state g.K.Source.left g.K.Sink.taken g.K.Source.read_faults g.K.Sink.write_faults) g.C.Clock.shows l.shared.config l.shared.clock l.shared.term l.shared.world l.first l.initial.root l.root
    (g.L.Listener.coming l.initial.listener) (g.L.Listener.coming l.listener) (g.L.Listener.ended l.initial.listener) (g.L.Listener.ended l.listener)
    l.places.sessions.items l.counts l.index
    × (g.L.Listener.out l.listener ≡ option_map (λ n. n + length l.places.sessions.items) (g.L.Listener.out l.initial.listener))
    × (g.L.Listener.accept_faults l.listener ≡ g.L.Listener.accept_faults l.initial.listener)
