-- The operations that a unit keeps, in the order in which they were made
use Rattle.std.specs.Prelude.{ℕ, ◌+◌, ◌-◌, List, length, filter, sum_by, Bool, false, ◌==◌, ◌&&◌, not, nat_le, if◌then◌else◌}
use Rattle.std.specs.List.{list_any}
use Rattle.lba_ranges.specs.HeldBlocks.{HeldBlocks}
use Rattle.lba_ranges.specs.declared.ranges.Range.{Range}
use Rattle.cm_history.specs.Bounds.{running_operations}
use Rattle.cm_history.specs.declared.act.CopyState.{CopyState}
use Rattle.cm_history.specs.declared.answer.OpState.{OpState}
use Rattle.cm_history.specs.Operations.{is_running_state, is_running_copy}
use Rattle.cm_history.specs.Room.{pieces}
use Rattle.copy_jobs.specs.declared.key.Key.{Key}
use Rattle.copy_jobs.specs.declared.job.Job.{Job}
use Rattle.copy_jobs.specs.declared.job.WriteJob.{WriteJob}
use Rattle.copy_jobs.specs.declared.job.Work.{Work}
use Rattle.copy_jobs.specs.declared.job.Work.TheVariants.{Populated, Writing, Copying}
use Rattle.copy_jobs.specs.Keys.{same_key}

abbrev pub has_key : Key → Job → Bool
has_key key job = same_key key job.key

-- ---- jobs that run

abbrev pub is_running_work : Work → Bool
is_running_work (Populated serial blocks) = false
is_running_work (Writing write) = is_running_state write.state
is_running_work (Copying result) = is_running_copy result.state

abbrev pub is_running : Job → Bool
is_running job = is_running_work job.work

abbrev pub has_ended : Job → Bool
has_ended job = not (is_running job)

-- the job runs, and the key is its own
abbrev pub runs_as : Key → Job → Bool
runs_as key job = is_running job && has_key key job

-- a job of the key runs
abbrev pub is_busy : Key → List Job → Bool
is_busy key jobs = list_any (runs_as key) jobs

abbrev pub running : List Job → List Job
running jobs = filter is_running jobs

-- 64 jobs run
abbrev pub is_crowded : List Job → Bool
is_crowded jobs = nat_le running_operations (length (running jobs))

-- ---- entries of the record that are kept free for jobs

-- one for each piece that is left, and one for an early end
abbrev pub reserved_to_write : WriteJob → ℕ
reserved_to_write write =
    if is_running_state write.state then pieces (length write.rod.items) + 1 - pieces write.written else 0

abbrev pub reserved_for : Work → ℕ
reserved_for (Populated serial blocks) = 0
reserved_for (Writing write) = reserved_to_write write
reserved_for (Copying result) = if is_running_copy result.state then 1 else 0

abbrev pub reserved : List Job → ℕ
reserved jobs = sum_by (λ (job : Job). reserved_for job.work) jobs

-- what is kept free for a write of so many blocks that begins
abbrev pub reserved_at_start : ℕ → ℕ
reserved_at_start blocks = if blocks == 0 then 0 else pieces blocks + 1

-- ---- new jobs

-- the blocks of the rod are to be written to the ranges
abbrev pub started : Key → Bool → List Range → HeldBlocks → Job
started key background ranges rod = record {
  key = key;
  work = Writing (record {
    background = background;
    ranges = ranges;
    rod = rod;
    written = 0;
    state = if length rod.items == 0 then OpState.Done else OpState.Running;
  });
}

-- a copy of which nothing is done yet
abbrev pub opened : Key → Job
opened key = record { key = key; work = Copying (record { state = CopyState.Running; segments = 0; bytes = 0 }) }

-- a token was made of so many blocks
abbrev pub made : Key → ℕ → ℕ → Job
made key serial blocks = record { key = key; work = Populated serial blocks }
