use Rattle.std.proofs.Common.{◌≡◌, length}
use Rattle.std.specs.Prelude.{find}
use Rattle.copy_jobs.specs.declared.job.Job.{Job}
use Rattle.copy_jobs.specs.inner.Entries.{jobs_of}
use Rattle.copy_jobs.specs.inner.Sought.{is_sought}
use Rattle.copy_jobs.proofs.records.first.Given as goal

-- what is looked for is among those that are left
abbrev pub invariant-loop-key : goal.invariant-loop-key
invariant-loop-key l = find (λ (job : Job). is_sought l.fn.sought job.work) (jobs_of l.older) ≡ find (λ (job : Job). is_sought l.fn.sought job.work) (jobs_of l.fn.works.entries)

abbrev pub decreases-loop-key : goal.decreases-loop-key
decreases-loop-key l = length l.older
