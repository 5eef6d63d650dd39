use Rattle.std.proofs.Common.{◌≡◌, ◌+◌, ◌-◌, ◌≤◌, length}
use Rattle.odx_host.specs.Rule.{next_step}
use Rattle.odx_host.specs.inner.Steps.{Talking, WritesOn, writes_to_come}
use Rattle.odx_host.proofs.copying.Host.write_all.Given as goal

abbrev pub invariant-writes : goal.invariant-writes
invariant-writes g l = record {
  talking : Talking (λ talk. g.P.Port.Talks l.initial.port talk l.port) (g.P.Port.IsIn l.initial.port) (g.P.Port.IsIn l.port)
      (λ talk. WritesOn l.initial.self.job.now l.token l.initial.self.copied l.first l.last l.self.copied l.self.to.place talk);
  host : l.self ≡ record l.initial.self { to = record l.initial.self.to { place = l.self.to.place }; copied = l.self.copied };
  low : l.first ≤ l.self.to.place;
  high : l.self.to.place ≤ l.last;
  steps : next_step l.self.copied + length (writes_to_come l.self.to.extents l.self.to.place l.last)
      ≡ next_step l.initial.self.copied + length (writes_to_come l.initial.self.to.extents l.first l.last);
}

abbrev pub decreases-writes : goal.decreases-writes
decreases-writes g l = l.last - l.self.to.place
