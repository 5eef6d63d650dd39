-- What is true of each table of jobs
use Rattle.std.specs.Prelude.{◌≡◌, ℕ, ◌^◌, ◌<◌, ◌≤◌, List, [], ◌∷◌, length, true, false, ⊤}
use Rattle.lba_ranges.specs.Denoted.{total, is_within, is_overlapping}
use Rattle.cm_history.specs.Bounds.{kept_operations, running_operations}
use Rattle.cm_history.specs.Operations.{is_running_state}
use Rattle.copy_jobs.specs.declared.job.Job.{Job}
use Rattle.copy_jobs.specs.declared.job.WriteJob.{WriteJob}
use Rattle.copy_jobs.specs.declared.job.Work.{Work}
use Rattle.copy_jobs.specs.declared.job.Work.TheVariants.{Populated, Writing, Copying}
use Rattle.copy_jobs.specs.Jobs.{running, reserved}
use Rattle.copy_jobs.specs.inner.Jobs.{is_copying}
use Rattle.copy_jobs.specs.Tables.{KeysApart}

-- the ranges can be written, and have as many blocks as the rod; what runs has not written all
pub record IsWriteJob (write : WriteJob) : Type 0 where
  pub apart : is_overlapping write.ranges ≡ false
  pub numbers : is_within (2 ^ 64) write.ranges ≡ true
  pub total : total write.ranges ≡ length write.rod.items
  pub few : length write.rod.items ≤ 1_048_576
  pub written : write.written ≤ length write.rod.items
  pub left : is_running_state write.state ≡ true → write.written < length write.rod.items

abbrev pub IsWork : Work → Type 0
IsWork (Populated serial blocks) = ⊤
IsWork (Writing write) = IsWriteJob write
IsWork (Copying result) = ⊤

-- the key says whether it is a copy, whose identifier has one byte
pub record IsJob (job : Job) : Type 0 where
  pub kind : job.key.copy ≡ is_copying job.work
  pub byte : job.key.copy ≡ true → job.key.id < 2 ^ 8
  pub work : IsWork job.work

abbrev pub AllJobs : List Job → Type 0
AllJobs [] = ⊤
AllJobs (job ∷ jobs) = IsJob job × AllJobs jobs

-- the jobs, and what is counted of them
pub record IsTable (kept : List Job) (own_running own_reserved : ℕ) : Type 0 where
  pub counts_running : own_running ≡ length (running kept)
  pub counts_reserved : own_reserved ≡ reserved kept
  pub few_running : length (running kept) ≤ running_operations
  pub few : length kept ≤ kept_operations
  pub apart : KeysApart kept
  pub jobs : AllJobs kept
