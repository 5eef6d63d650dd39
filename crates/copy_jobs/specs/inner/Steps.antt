-- What may happen to a job that runs
use Rattle.std.specs.Prelude.{◌≡◌, List, Some, true, false}
use Rattle.cm_history.specs.Operations.{is_running_copy}
use Rattle.copy_jobs.specs.declared.key.Key.{Key}
use Rattle.copy_jobs.specs.declared.job.Job.{Job}
use Rattle.copy_jobs.specs.declared.job.Work.{Work}
use Rattle.copy_jobs.specs.declared.change.Change.{Change}
use Rattle.copy_jobs.specs.declared.change.Change.TheVariants.{Moved, Stopped, Terminated, Closed}
use Rattle.copy_jobs.specs.inner.Jobs.{is_copying}
use Rattle.copy_jobs.specs.Changes.{moved_by, stopped_by, terminated, closed_by}
use Rattle.copy_jobs.specs.inner.Pieces.{is_writing}
use Rattle.copy_jobs.specs.Pieces.{piece_length, next_length}

abbrev pub stepped : Change → Work → Work
stepped (Moved blocks) work = moved_by blocks work
stepped (Stopped sense) work = stopped_by sense work
stepped Terminated work = terminated work
stepped (Closed end) work = closed_by end work

-- the work can take the step: a whole piece is written, and a copy comes to an end
abbrev pub MayTake : Change → Work → Type 0
MayTake (Moved blocks) work = (is_writing work ≡ true) × (piece_length work ≡ blocks)
MayTake (Stopped sense) work = is_writing work ≡ true
MayTake Terminated work = is_writing work ≡ true
MayTake (Closed end) work = (is_copying work ≡ true) × (is_running_copy end.state ≡ false)

-- the job that runs as the key can
abbrev pub MayStep : Change → Key → List Job → Type 0
MayStep (Moved blocks) key jobs = (key.copy ≡ false) × (next_length key jobs ≡ Some blocks)
MayStep (Stopped sense) key jobs = key.copy ≡ false
MayStep Terminated key jobs = key.copy ≡ false
MayStep (Closed end) key jobs = (key.copy ≡ true) × (is_running_copy end.state ≡ false)
