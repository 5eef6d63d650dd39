use Rattle.std.proofs.Common.{◌-◌}
use Rattle.odx_host.specs.inner.Steps.{Talking, StillRuns}
use Rattle.odx_host.proofs.copying.wait.Given as goal

abbrev pub invariant-polls : goal.invariant-polls
invariant-polls g l = Talking (λ talk. g.P.Port.Talks l.initial.port talk l.port) (g.P.Port.IsIn l.initial.port) (g.P.Port.IsIn l.port)
    (λ talk. StillRuns l.unit l.step l.blocks l.polls (l.polls - l.counter) talk)
