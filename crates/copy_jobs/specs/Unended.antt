-- The operation that its initiator has still to end
use Rattle.std.specs.Prelude.{List, find, Option, Bool, ◌&&◌, not}
use Rattle.std.specs.Option.{option_map}
use Rattle.copy_jobs.specs.declared.key.Key.{Key}
use Rattle.copy_jobs.specs.declared.job.Job.{Job}
use Rattle.copy_jobs.specs.Jobs.{is_running}
use Rattle.copy_jobs.specs.Pieces.{is_background}

-- the job runs, and no pump writes it: it is written in the foreground, or is a copy
abbrev pub is_unended : Job → Bool
is_unended job = is_running job && not (is_background job.work)

-- the key of the first such job, which is the one that was made earliest
abbrev pub unended : List Job → Option Key
unended jobs = option_map (λ (job : Job). job.key) (find is_unended jobs)
