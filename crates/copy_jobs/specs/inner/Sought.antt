-- Which of the jobs is looked for
use Rattle.std.specs.Prelude.{Bool, ◌&&◌, not, if◌then◌else◌}
use Rattle.copy_jobs.specs.declared.job.Work.{Work}
use Rattle.copy_jobs.specs.declared.job.Sought.{Sought}
use Rattle.copy_jobs.specs.declared.job.Sought.TheVariants.{Ended, Running}
use Rattle.copy_jobs.specs.Jobs.{is_running_work}
use Rattle.copy_jobs.specs.Pieces.{is_background}

-- one that runs, whether the pump writes it or not
abbrev pub runs_so : Bool → Work → Bool
runs_so background work = is_running_work work && (if background then is_background work else not (is_background work))

abbrev pub is_sought : Sought → Work → Bool
is_sought Ended work = not (is_running_work work)
is_sought (Running background) work = runs_so background work
