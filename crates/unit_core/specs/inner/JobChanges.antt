-- What is to be changed in the operations
use Rattle.std.specs.Prelude.{◌≡◌, ◌<◌, ◌≤◌, ◌^◌, List, length, Some, Bool, true, false, ⊤}
use Rattle.lba_ranges.specs.Denoted.{total, is_within, is_overlapping}
use Rattle.scsi_sense.specs.Codes.{space_allocation_failed}
use Rattle.cm_history.specs.Operations.{is_running_copy}
use Rattle.copy_jobs.specs.declared.job.Job.{Job}
use Rattle.copy_jobs.specs.Jobs.{runs_as, is_busy, is_crowded, started, opened, made}
use Rattle.copy_jobs.specs.Keeping.{keep}
use Rattle.copy_jobs.specs.Changes.{change, with_work, moved_by, stopped_by, terminated, closed_by}
use Rattle.copy_jobs.specs.Pieces.{next_length}
use Rattle.unit_core.specs.declared.job_change.JobChange.{JobChange}
use Rattle.unit_core.specs.declared.job_change.JobChange.TheVariants.{Nothing, Make, Start, Open, Move, Stop, End, Close}

abbrev pub jobs_after : JobChange → List Job → List Job
jobs_after Nothing jobs = jobs
jobs_after (Make key serial blocks) jobs = keep jobs (made key serial blocks)
jobs_after (Start key background ranges rod) jobs = keep jobs (started key background ranges rod)
jobs_after (Open key) jobs = keep jobs (opened key)
jobs_after (Move key blocks) jobs = change (runs_as key) (with_work (moved_by blocks)) jobs
jobs_after (Stop key) jobs = change (runs_as key) (with_work (stopped_by space_allocation_failed)) jobs
jobs_after (End key) jobs = change (runs_as key) (with_work terminated) jobs
jobs_after (Close key result) jobs = change (runs_as key) (with_work (closed_by result)) jobs

-- a new operation is kept
abbrev pub grows : JobChange → Bool
grows (Make key serial blocks) = true
grows (Start key background ranges rod) = true
grows (Open key) = true
grows _ = false

-- the change may be made
abbrev pub MayJob : JobChange → List Job → Type 0
MayJob Nothing jobs = ⊤
MayJob (Make key serial blocks) jobs = (key.copy ≡ false) × (is_busy key jobs ≡ false)
MayJob (Start key background ranges rod) jobs =
    (key.copy ≡ false) × (is_busy key jobs ≡ false) × (is_crowded jobs ≡ false) × (is_overlapping ranges ≡ false) × (is_within (2 ^ 64) ranges ≡ true) × (total ranges ≡ length rod.items) × (length rod.items ≤ 1_048_576)
MayJob (Open key) jobs = (key.copy ≡ true) × (key.id < 2 ^ 8) × (is_busy key jobs ≡ false) × (is_crowded jobs ≡ false)
MayJob (Move key blocks) jobs = (key.copy ≡ false) × (next_length key jobs ≡ Some blocks)
MayJob (Stop key) jobs = (key.copy ≡ false) × (is_busy key jobs ≡ true)
MayJob (End key) jobs = (key.copy ≡ false) × (is_busy key jobs ≡ true)
MayJob (Close key result) jobs = (key.copy ≡ true) × (is_busy key jobs ≡ true) × (is_running_copy result.state ≡ false)
