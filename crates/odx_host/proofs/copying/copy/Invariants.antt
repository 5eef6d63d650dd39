use Rattle.std.proofs.Common.{◌≡◌, ◌+◌, ◌-◌}
use Rattle.lba_ranges.specs.Denoted.{total}
use Rattle.odx_host.specs.Parts.{parts}
use Rattle.odx_host.specs.Rule.{next_step}
use Rattle.odx_host.specs.inner.Steps.{Talking, CopiesOn, parts_to_come, steps_in}
use Rattle.odx_host.proofs.copying.copy.Given as goal

abbrev pub invariant-parts : goal.invariant-parts
invariant-parts g l = record {
  talking : Talking (λ talk. g.P.Port.Talks l.initial.port talk l.port) (g.P.Port.IsIn l.initial.port) (g.P.Port.IsIn l.port)
      (λ talk. CopiesOn l.job l.host.copied l.host.from.place talk);
  job : l.host.job.now ≡ l.job;
  from : l.host.from.extents ≡ l.job.from;
  to : l.host.to.extents ≡ l.job.to;
  place : l.host.to.place ≡ l.host.from.place;
  steps : next_step l.host.copied + steps_in (parts_to_come l.job l.host.from.place) ≡ 1 + steps_in (parts l.job);
}

abbrev pub decreases-parts : goal.decreases-parts
decreases-parts g l = total l.job.from - l.host.from.place
