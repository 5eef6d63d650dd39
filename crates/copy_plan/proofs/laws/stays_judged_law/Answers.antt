use Rattle.copy_plan.proofs.JobStays.{job-stays}
use Rattle.copy_plan.proofs.laws.stays_judged_law.Goals as goal

pub returns : goal.returns
returns c = job-stays
