use Rattle.copy_jobs.specs.declared.job.Job.{Job}
use Rattle.copy_jobs.specs.inner.Sought.{runs_so}
use Rattle.copy_jobs.proofs.Entries.{job-under}
use Rattle.copy_jobs.proofs.Found.{find-job}
use Rattle.copy_jobs.proofs.table.JobTable.unended.Goals as goal
use Rattle.std.specs.Prelude.{false}

-- the identifier of a copy has one byte
pub returns-clause-byte : goal.returns-clause-byte
returns-clause-byte c =
    (find-job (λ (job : Job). runs_so false job.work) c.args.self.now (job-under c.in_ok-key.key c.in_ok-key.field-0-1.now) c.first_running.ensures.jobs c.in_ok-key.ensures.found).byte
