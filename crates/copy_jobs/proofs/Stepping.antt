-- What a step leaves of a job that runs
use Rattle.std.proofs.Common.{◌≡◌, ℕ, ◌+◌, ◌-◌, ◌<◌, ◌≤◌, List, length, min, refl, sym, ◌∙◌, arith, true, false, Bool}
use Rattle.std.specs.Prelude.{◌==◌, Some, find, not, if◌then◌else◌}
use Rattle.std.specs.Option.{option_map}
use Rattle.std.proofs.lemmas.Bool.Decides.{nat_tests}
use Rattle.cm_history.specs.Bounds.{piece_blocks}
use Rattle.cm_history.specs.Operations.{is_running_state}
use Rattle.cm_history.specs.Room.{pieces}
use Rattle.cm_history.specs.declared.answer.OpState.{OpState}
use Rattle.copy_jobs.specs.declared.key.Key.{Key}
use Rattle.copy_jobs.specs.declared.job.Job.{Job}
use Rattle.copy_jobs.specs.declared.job.WriteJob.{WriteJob}
use Rattle.copy_jobs.specs.declared.job.Work.{Work}
use Rattle.copy_jobs.specs.declared.job.Work.TheVariants.{Populated, Writing, Copying}
use Rattle.copy_jobs.specs.declared.change.Change.{Change}
use Rattle.copy_jobs.specs.declared.change.Change.TheVariants.{Moved, Stopped, Terminated, Closed}
use Rattle.copy_jobs.specs.Keys.{same_key}
use Rattle.copy_jobs.specs.Jobs.{has_key, is_running, is_running_work, runs_as, is_busy, reserved, reserved_for}
use Rattle.copy_jobs.specs.inner.Jobs.{is_copying}
use Rattle.copy_jobs.specs.Changes.{change, with_work, moved_write}
use Rattle.copy_jobs.specs.inner.Pieces.{is_writing}
use Rattle.copy_jobs.specs.Pieces.{piece_length}
use Rattle.copy_jobs.specs.inner.Steps.{stepped, MayTake, MayStep}
use Rattle.copy_jobs.specs.inner.Tables.{IsWork, IsWriteJob, IsJob, AllJobs, IsTable}
use Rattle.copy_jobs.proofs.SameKeys.{same_copy}
use Rattle.cm_history.proofs.PublicLaws.{and_first, and_second as and_later}
use Rattle.copy_jobs.proofs.Counts.{one_if}
use Rattle.copy_jobs.proofs.Found.{Found, found, find-job}
use Rattle.copy_jobs.proofs.Changed.{change-length, change-running, change-reserved, change-apart, change-jobs}

-- what a step leaves is kept as before, and keeps fewer entries free
pub record Leaves (was now : Work) : Type 0 where
  pub kind : is_copying now ≡ is_copying was
  pub work : IsWork now
  pub frees : reserved_for now + 1 ≤ reserved_for was

state-after : Bool → OpState
state-after all = if all then OpState.Done else OpState.Running

-- the write after a whole piece
moved-write : (write : WriteJob) (blocks : ℕ) → IsWriteJob write → is_running_state write.state ≡ true
    → min piece_blocks (length write.rod.items - write.written) ≡ blocks → Leaves (Writing write) (Writing (moved_write blocks write))
moved-write write blocks is runs size = go (write.written + blocks == length write.rod.items) refl
  where
    left : write.written < length write.rod.items
    left = is.left runs

    was : reserved_for (Writing write) ≡ pieces (length write.rod.items) + 1 - pieces write.written
    was = rw runs refl

    go : (t : Bool) → (write.written + blocks == length write.rod.items) ≡ t
        → Leaves (Writing write) (Writing (record write { written = write.written + blocks; state = if t then OpState.Done else OpState.Running }))
    go true e = record {
      kind = refl;
      work = record {
        apart = is.apart;
        numbers = is.numbers;
        total = is.total;
        few = is.few;
        written = omega (arith, size, left);
        left = λ h. cc;
      };
      frees = omega (arith, was, left);
    }
    go false e =
        let less : write.written + blocks < length write.rod.items = grind (arith, nat_tests, size, left) in
        record {
          kind = refl;
          work = record {
            apart = is.apart;
            numbers = is.numbers;
            total = is.total;
            few = is.few;
            written = omega (arith, less);
            left = λ h. less;
          };
          frees = omega (arith, was, less, size);
        }

-- the write in a state in which it goes on no more
ended-write : (write : WriteJob) (state : OpState) → IsWriteJob write → is_running_state write.state ≡ true → is_running_state state ≡ false
    → Leaves (Writing write) (Writing (record write { state = state }))
ended-write write state is runs ended =
    let left = is.left runs in
    let was : reserved_for (Writing write) ≡ pieces (length write.rod.items) + 1 - pieces write.written = rw runs refl in
    let now : reserved_for (Writing (record write { state = state })) ≡ 0 = rw ended refl in
    record {
      kind = refl;
      work = record {
        apart = is.apart;
        numbers = is.numbers;
        total = is.total;
        few = is.few;
        written = is.written;
        left = λ h. let no : true ≡ false = sym h ∙ ended in cc;
      };
      frees = omega (arith, was, now, left);
    }

pub leaves : (step : Change) (work : Work) → IsWork work → is_running_work work ≡ true → MayTake step work → Leaves work (stepped step work)
leaves step (Populated serial blocks) is runs may = cc
leaves (Moved blocks) (Writing write) is runs may = moved-write write blocks is runs may.1
leaves (Stopped sense) (Writing write) is runs may = ended-write write (OpState.Failed sense) is runs refl
leaves Terminated (Writing write) is runs may = ended-write write OpState.Terminated is runs refl
leaves (Closed end) (Writing write) is runs may = let no : false ≡ true = may.0 in cc
leaves (Moved blocks) (Copying was) is runs may = let no : false ≡ true = may.0 in cc
leaves (Stopped sense) (Copying was) is runs may = cc
leaves Terminated (Copying was) is runs may = cc
leaves (Closed end) (Copying was) is runs may = record { kind = refl; work = tt; frees = rw (runs, may.1) (omega arith) }

-- ---- a step of the job that runs as a key

writing-if : (work : Work) → is_running_work work ≡ true → is_copying work ≡ false → is_writing work ≡ true
writing-if (Populated serial blocks) runs copy = cc
writing-if (Writing write) runs copy = refl
writing-if (Copying result) runs copy = cc

may-take : (step : Change) (key : Key) (jobs : List Job) (job : Job) → find (runs_as key) jobs ≡ Some job → MayStep step key jobs
    → key.copy ≡ is_copying job.work → is_running_work job.work ≡ true → MayTake step job.work
may-take (Moved blocks) key jobs job found may kind runs =
    let told : option_map (λ (j : Job). piece_length j.work) (find (runs_as key) jobs) ≡ Some blocks = may.1 in
    let piece : Some (piece_length job.work) ≡ Some blocks = rw found at told in
    let size : piece_length job.work ≡ blocks = cc in
    (writing-if job.work runs (sym kind ∙ may.0), size)
may-take (Stopped sense) key jobs job found may kind runs = writing-if job.work runs (sym kind ∙ may)
may-take Terminated key jobs job found may kind runs = writing-if job.work runs (sym kind ∙ may)
may-take (Closed end) key jobs job found may kind runs = (sym kind ∙ may.0, may.1)

-- the job, and what the step leaves of it
pub record Stepping (step : Change) (key : Key) (jobs : List Job) : Type 0 where
  pub it : Found (runs_as key) jobs
  pub is : IsJob it.job
  pub runs : is_running_work it.job.work ≡ true
  pub may : MayTake step it.job.work
  pub after : Leaves it.job.work (stepped step it.job.work)

pub stepping : (step : Change) (key : Key) (jobs : List Job) → AllJobs jobs → is_busy key jobs ≡ true → MayStep step key jobs → Stepping step key jobs
stepping step key jobs all busy may =
    let it = found (runs_as key) jobs busy in
    let runs : is_running_work it.job.work ≡ true = and_first (is_running it.job) (has_key key it.job) it.passes in
    let keyed : same_key key it.job.key ≡ true = and_later (is_running it.job) (has_key key it.job) it.passes in
    let is = find-job (runs_as key) jobs it.job all it.is in
    let take = may-take step key jobs it.job it.is may (same_copy key it.job.key keyed ∙ is.kind) runs in
    record { it = it; is = is; runs = runs; may = take; after = leaves step it.job.work is.work runs take }

pub stepped-table : (step : Change) (key : Key) (jobs : List Job) (own_running own_reserved : ℕ) → IsTable jobs own_running own_reserved → (s : Stepping step key jobs)
    → IsTable (change (runs_as key) (with_work (stepped step)) jobs)
    (own_running - one_if (not (is_running_work (stepped step s.it.job.work))))
    (own_reserved + reserved_for (stepped step s.it.job.work) - reserved_for s.it.job.work)
stepped-table step key jobs own_running own_reserved is s =
    let job = s.it.job in
    let f : Job → Job = with_work (stepped step) in
    let counted = change-running (runs_as key) f jobs job s.it.is in
    let freed = change-reserved (runs_as key) f jobs job s.it.is in
    let now : IsJob (f job) = record { kind = s.is.kind ∙ sym s.after.kind; byte = s.is.byte; work = s.after.work } in
    let was : one_if (is_running job) ≡ 1 = rw s.runs refl in
    let either : one_if (is_running (f job)) + one_if (not (is_running (f job))) ≡ 1 = one-of (is_running (f job)) in
    record {
      counts_running = omega (arith, is.counts_running, counted, was, either);
      counts_reserved = omega (arith, is.counts_reserved, freed, s.after.frees);
      few_running = omega (arith, is.few_running, counted, was, either);
      few = rw (change-length (runs_as key) f jobs) is.few;
      apart = change-apart (runs_as key) (stepped step) jobs is.apart;
      jobs = change-jobs (runs_as key) f jobs job s.it.is is.jobs now;
    }
  where
    one-of : (t : Bool) → one_if t + one_if (not t) ≡ 1
    one-of true = refl
    one-of false = refl

pub stepped-frees : (step : Change) (key : Key) (jobs : List Job) (s : Stepping step key jobs)
    → reserved (change (runs_as key) (with_work (stepped step)) jobs) + 1 ≤ reserved jobs
stepped-frees step key jobs s =
    let freed = change-reserved (runs_as key) (with_work (stepped step)) jobs s.it.job s.it.is in
    omega (arith, freed, s.after.frees)
