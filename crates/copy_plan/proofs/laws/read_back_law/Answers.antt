use Rattle.copy_plan.proofs.JobBack.{job-back}
use Rattle.copy_plan.proofs.laws.read_back_law.Goals as goal

pub returns : goal.returns
returns c = job-back
