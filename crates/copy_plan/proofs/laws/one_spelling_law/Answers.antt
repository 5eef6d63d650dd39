use Rattle.copy_plan.proofs.JobSpelled.{job-spelled}
use Rattle.copy_plan.proofs.laws.one_spelling_law.Goals as goal

pub returns : goal.returns
returns c = job-spelled
