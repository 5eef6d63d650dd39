use Rattle.std.proofs.Common.{◌≡◌, ◌≤◌, ◌-◌, List}
use Rattle.std.specs.Prelude.{ℕ, Option}
use Rattle.cmd_program.specs.Running.{Call}
use Rattle.cm_frame.specs.Framing.{frames_limit}
use Rattle.session.specs.inner.Talking.{IsAt}
use Rattle.session.proofs.talks.Talk.all.Given as goal

abbrev pub invariant-turns : goal.invariant-turns
invariant-turns g l =
    ((calls : List Call) (left taken : Option (List ℕ))
    → IsAt l.config (g.R.Runs.number l.initial.actor) (g.C.Clock.shows l.clock) (g.R.Runs.StandsFor l.initial.actor) (g.R.Runs.Settled l.initial.actor) calls left (g.K.Source.left l.initial.link) taken (g.K.Sink.taken l.initial.link) l.initial.self.frames l.initial.self.input
    → IsAt l.config (g.R.Runs.number l.initial.actor) (g.C.Clock.shows l.clock) (g.R.Runs.StandsFor l.actor) (g.R.Runs.Settled l.actor) calls left (g.K.Source.left l.link) taken (g.K.Sink.taken l.link) l.self.frames l.self.input)
    × (g.R.Runs.config l.actor ≡ g.R.Runs.config l.initial.actor)
    × (g.R.Runs.number l.actor ≡ g.R.Runs.number l.initial.actor)
    × (g.K.Source.read_faults l.link ≡ g.K.Source.read_faults l.initial.link)
    × (g.K.Sink.write_faults l.link ≡ g.K.Sink.write_faults l.initial.link)
    × (l.self.frames ≤ frames_limit)
    × (g.R.Runs.unsettled l.actor ≡ g.R.Runs.unsettled l.initial.actor)

abbrev pub decreases-turns : goal.decreases-turns
decreases-turns g l = frames_limit - l.self.frames
