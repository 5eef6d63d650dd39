use Rattle.std.proofs.Common.{◌≡◌, ◌-◌, ℕ, List, Option, length}
use Rattle.trace_replay.specs.inner.Players.{IsAt}
use Rattle.trace_replay.proofs.player.Player.next_item.Given as goal

abbrev pub invariant-loop-found : goal.invariant-loop-found
invariant-loop-found g l =
    ((left taken : Option (List ℕ)) → IsAt left (g.I.Source.left l.initial.input) taken (g.O.Sink.taken l.initial.output) l.initial.self
    → IsAt left (g.I.Source.left l.input) taken (g.O.Sink.taken l.output) l.self)
    × (g.I.Source.read_faults l.input ≡ g.I.Source.read_faults l.initial.input)
    × (g.O.Sink.write_faults l.output ≡ g.O.Sink.write_faults l.initial.output)
    × (l.self.summary ≡ l.initial.self.summary)

abbrev pub decreases-loop-found : goal.decreases-loop-found
decreases-loop-found g l = 8_388_643 - length l.self.input
