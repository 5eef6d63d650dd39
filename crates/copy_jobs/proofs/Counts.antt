-- How many entries are kept free
use Rattle.std.proofs.Common.{◌≡◌, ℕ, ◌+◌, ◌-◌, ◌*◌, ◌≤◌, List, [], ◌∷◌, length, refl, arith, true, false, Bool}
use Rattle.std.specs.Prelude.{cond, if◌then◌else◌}
use Rattle.std.proofs.lemmas.List.Sums.{sum_by-cons}
use mir.Val.{bool_byte}
use Rattle.cm_history.specs.Operations.{is_running_state, is_running_copy}
use Rattle.cm_history.specs.Room.{pieces}
use Rattle.copy_jobs.specs.declared.job.Job.{Job}
use Rattle.copy_jobs.specs.declared.job.Work.{Work}
use Rattle.copy_jobs.specs.declared.job.Work.TheVariants.{Populated, Writing, Copying}
use Rattle.copy_jobs.specs.Jobs.{is_running, is_running_work, running, reserved, reserved_for}
use Rattle.copy_jobs.specs.inner.Tables.{IsWork, AllJobs}

-- 1 for a job that runs
abbrev pub one_if : Bool → ℕ
one_if b = if b then 1 else 0

pub pieces-few : (n : ℕ) → n ≤ 1_048_576 → pieces n ≤ 1024
pieces-few n h = omega arith

pub work-few : (work : Work) → IsWork work → reserved_for work ≤ 1025 * one_if (is_running_work work)
work-few (Populated serial blocks) is = omega arith
work-few (Writing write) is = go (is_running_state write.state)
  where
    go : (t : Bool) → (if t then pieces (length write.rod.items) + 1 - pieces write.written else 0) ≤ 1025 * one_if t
    go true = let few = pieces-few (length write.rod.items) is.few in omega arith
    go false = omega arith
work-few (Copying result) is = go (is_running_copy result.state)
  where
    go : (t : Bool) → (if t then 1 else 0) ≤ 1025 * one_if t
    go true = omega arith
    go false = omega arith

pub running-more : (job : Job) (jobs : List Job) → length (running (job ∷ jobs)) ≡ one_if (is_running job) + length (running jobs)
running-more job jobs = go (is_running job)
  where
    go : (t : Bool) → length (cond t (job ∷ running jobs) (running jobs)) ≡ one_if t + length (running jobs)
    go true = omega arith
    go false = omega arith

pub reserved-more : (job : Job) (jobs : List Job) → reserved (job ∷ jobs) ≡ reserved_for job.work + reserved jobs
reserved-more job jobs = sum_by-cons (λ (j : Job). reserved_for j.work) job jobs

pub reserved-few : (jobs : List Job) → AllJobs jobs → reserved jobs ≤ 1025 * length (running jobs)
reserved-few [] all = omega arith
reserved-few (job ∷ jobs) all =
    let here = work-few job.work all.0.work in
    let later = reserved-few jobs all.1 in
    let counted = running-more job jobs in
    let split = reserved-more job jobs in
    omega arith

-- what `u32::from` gives of a test
pub byte-one : (b : Bool) → bool_byte b ≡ one_if b
byte-one true = refl
byte-one false = refl
