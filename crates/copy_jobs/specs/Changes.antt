-- What a job becomes
use Rattle.std.specs.Prelude.{ℕ, ◌+◌, List, [], ◌∷◌, length, Bool, ◌==◌, if◌then◌else◌}
use Rattle.scsi_sense.specs.SenseCode.{SenseCode}
use Rattle.cm_history.specs.declared.act.CopyEnd.{CopyEnd}
use Rattle.cm_history.specs.declared.answer.OpState.{OpState}
use Rattle.copy_jobs.specs.declared.job.Job.{Job}
use Rattle.copy_jobs.specs.declared.job.WriteJob.{WriteJob}
use Rattle.copy_jobs.specs.declared.job.Work.{Work}
use Rattle.copy_jobs.specs.declared.job.Work.TheVariants.{Writing, Copying}

-- the list with the first job that the test holds of changed
abbrev pub change : (Job → Bool) → (Job → Job) → List Job → List Job
change test f [] = []
change test f (job ∷ jobs) = if test job then f job ∷ jobs else job ∷ change test f jobs

-- a job whose work is changed
abbrev pub with_work : (Work → Work) → Job → Job
with_work f job = record job { work = f job.work }

-- so many more blocks are written
abbrev pub moved_write : ℕ → WriteJob → WriteJob
moved_write blocks write = record write {
  written = write.written + blocks;
  state = if write.written + blocks == length write.rod.items then OpState.Done else OpState.Running;
}

abbrev pub moved_by : ℕ → Work → Work
moved_by blocks (Writing write) = Writing (moved_write blocks write)
moved_by blocks work = work

-- a piece was refused
abbrev pub stopped_by : SenseCode → Work → Work
stopped_by sense (Writing write) = Writing (record write { state = OpState.Failed sense })
stopped_by sense work = work

-- the initiator ended it
abbrev pub terminated : Work → Work
terminated (Writing write) = Writing (record write { state = OpState.Terminated })
terminated work = work

-- a copy has come to its end
abbrev pub closed_by : CopyEnd → Work → Work
closed_by result (Copying was) = Copying result
closed_by result work = work
