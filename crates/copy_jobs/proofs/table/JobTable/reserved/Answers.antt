use Rattle.std.proofs.Common.{arith}
use Rattle.copy_jobs.specs.inner.Entries.{jobs_of}
use Rattle.copy_jobs.proofs.Counts.{reserved-few}
use Rattle.copy_jobs.proofs.table.JobTable.reserved.Goals as goal

pub returns-clause-few : goal.returns-clause-few
returns-clause-few c =
    let is = c.self.invariant.0 in
    omega (arith, is.counts_reserved, is.few_running, reserved-few (jobs_of c.self.inside.works.entries) is.jobs)
