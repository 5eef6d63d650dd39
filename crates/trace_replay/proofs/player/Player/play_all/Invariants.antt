use Rattle.std.proofs.Common.{◌≡◌, ◌≤◌, ◌-◌, ℕ, List, Option}
use Rattle.trace_replay.specs.Items.{items_limit}
use Rattle.trace_replay.specs.inner.Players.{IsAt, IsPlayer}
use Rattle.trace_replay.proofs.player.Player.play_all.Given as goal

abbrev pub invariant-loop-self : goal.invariant-loop-self
invariant-loop-self g l =
    ((left taken : Option (List ℕ)) → IsAt left (g.I.Source.left l.initial.input) taken (g.O.Sink.taken l.initial.output) l.initial.self
    → IsAt left (g.I.Source.left l.input) taken (g.O.Sink.taken l.output) l.self)
    × IsPlayer l.self
    × (g.I.Source.read_faults l.input ≡ g.I.Source.read_faults l.initial.input)
    × (g.O.Sink.write_faults l.output ≡ g.O.Sink.write_faults l.initial.output)
    × (l.self.summary.records ≤ items_limit)

abbrev pub decreases-loop-self : goal.decreases-loop-self
decreases-loop-self g l = items_limit - l.self.summary.records
