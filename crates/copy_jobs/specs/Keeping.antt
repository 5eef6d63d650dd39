-- How a new job is kept beside the earlier ones
use Rattle.std.specs.Prelude.{List, [], ◌∷◌, ◌++◌, length, filter, Bool, ◌==◌, ◌&&◌, not, if◌then◌else◌}
use Rattle.cm_history.specs.Bounds.{kept_operations}
use Rattle.copy_jobs.specs.declared.key.Key.{Key}
use Rattle.copy_jobs.specs.declared.job.Job.{Job}
use Rattle.copy_jobs.specs.Jobs.{has_key, has_ended}

-- the list without the first job that the test holds of
abbrev pub without_first : (Job → Bool) → List Job → List Job
without_first test [] = []
without_first test (job ∷ jobs) = if test job then jobs else job ∷ without_first test jobs

-- where 256 are kept, the first that has ended makes room
abbrev pub with_room : List Job → List Job
with_room jobs = if length jobs == kept_operations then without_first has_ended jobs else jobs

-- the job has not ended, or has another key
abbrev pub is_other : Key → Job → Bool
is_other key job = not (has_ended job && has_key key job)

-- the jobs with a new one, which replaces the one of its key
abbrev pub keep : List Job → Job → List Job
keep jobs job = with_room (filter (is_other job.key) jobs) ++ job ∷ []
