-- The jobs as they lie under their keys, the newest first
use Rattle.std.specs.Prelude.{List, [], ◌∷◌, ◌++◌, Bool, false}
use Rattle.copy_jobs.specs.declared.key.Key.{Key}
use Rattle.copy_jobs.specs.declared.job.Job.{Job}
use Rattle.copy_jobs.specs.declared.job.Work.{Work}
use Rattle.copy_jobs.specs.Jobs.{is_running}

abbrev pub job_of : Key × Work → Job
job_of entry = record { key = entry.0; work = entry.1 }

-- in the order in which they were kept
abbrev pub jobs_of : List (Key × Work) → List Job
jobs_of [] = []
jobs_of (entry ∷ entries) = jobs_of entries ++ job_of entry ∷ []

-- the one that was kept first runs
abbrev pub first_runs : List Job → Bool
first_runs [] = false
first_runs (job ∷ jobs) = is_running job
