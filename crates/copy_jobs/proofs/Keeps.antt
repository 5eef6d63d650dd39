-- A table with one more job is a table
use Rattle.std.proofs.Common.{◌≡◌, ℕ, suc, ◌+◌, ◌<◌, ◌≤◌, List, [], ◌∷◌, ◌++◌, length, length-append, refl, ap, ◌∙◌, arith, true, false, Bool}
use Rattle.std.specs.Prelude.{◌&&◌, ◌==◌, not, nat_le, Option, Some, None, find, filter, cond, if◌then◌else◌}
use Rattle.std.specs.List.{list_any}
use Rattle.std.proofs.lemmas.Bool.Decides.{nat_tests}
use Rattle.std.proofs.lemmas.List.Elements.{filter-append}
use Rattle.std.proofs.lemmas.List.Sums.{sum_by-append}
use Rattle.cm_history.specs.Bounds.{kept_operations, running_operations}
use Rattle.copy_jobs.specs.declared.key.Key.{Key}
use Rattle.copy_jobs.specs.declared.job.Job.{Job}
use Rattle.copy_jobs.specs.Jobs.{has_key, is_running, has_ended, runs_as, is_busy, is_crowded, running, reserved, reserved_for}
use Rattle.copy_jobs.specs.Keeping.{without_first, with_room, is_other, keep}
use Rattle.copy_jobs.proofs.Entries.{find-none, without-pushed}
use Rattle.copy_jobs.proofs.Newest.{all-run}
use Rattle.copy_jobs.specs.Tables.{KeysApart}
use Rattle.copy_jobs.specs.inner.Tables.{IsJob, AllJobs, IsTable}
use Rattle.copy_jobs.proofs.Lists.{or_first, or_later, any-append}
use Rattle.copy_jobs.proofs.SameKeys.{same_key-sym}
use Rattle.copy_jobs.proofs.Counts.{one_if, running-more}
use Rattle.copy_jobs.proofs.Trims.{trims-filter, trims-room, trims-running, trims-reserved, trims-length, trims-any, trims-apart, trims-jobs}

-- where not all run, one that has ended is left out
without-length : (jobs : List Job) → length (running jobs) < length jobs → length (without_first has_ended jobs) + 1 ≡ length jobs
without-length [] h = omega arith
without-length (job ∷ jobs) h = go (is_running job) (running-more job jobs) (without-length jobs)
  where
    go : (t : Bool) → length (running (job ∷ jobs)) ≡ one_if t + length (running jobs)
        → (length (running jobs) < length jobs → length (without_first has_ended jobs) + 1 ≡ length jobs)
        → length (if not t then jobs else job ∷ without_first has_ended jobs) + 1 ≡ suc (length jobs)
    go true counted later = let e = later (omega arith) in omega arith
    go false counted later = omega arith

room-length : (jobs : List Job) → length jobs ≤ kept_operations → length (running jobs) ≤ running_operations → length (with_room jobs) + 1 ≤ kept_operations
room-length jobs few runs = go (length jobs == kept_operations) refl
  where
    go : (t : Bool) → (length jobs == kept_operations) ≡ t → length (if t then without_first has_ended jobs else jobs) + 1 ≤ kept_operations
    go true e =
        let full : length jobs ≡ 256 = grind (arith, nat_tests) in
        let less = without-length jobs (omega arith) in
        omega arith
    go false e = grind (arith, nat_tests)

pub kept-few : (jobs : List Job) (job : Job) → length jobs ≤ kept_operations → length (running jobs) ≤ running_operations → length (keep jobs job) ≤ kept_operations
kept-few jobs job few runs =
    let others = filter (is_other job.key) jobs in
    let first = trims-filter job.key jobs in
    let short : length others ≤ length jobs = trims-length jobs others first in
    let alike : length (running others) ≡ length (running jobs) = ap length (trims-running jobs others first) in
    let long : length (keep jobs job) ≡ length (with_room others) + 1 = length-append (with_room others) (job ∷ []) in
    let fits = room-length others (omega arith) (omega arith) in
    omega arith

-- no job that stays has the key of a new one, if none of them runs
pub fresh-key : (key : Key) (jobs : List Job) → is_busy key jobs ≡ false → list_any (has_key key) (filter (is_other key) jobs) ≡ false
fresh-key key [] idle = refl
fresh-key key (job ∷ jobs) idle =
    go (is_running job) (has_key key job) refl (or_first (runs_as key job) (is_busy key jobs) idle) (fresh-key key jobs (or_later (runs_as key job) (is_busy key jobs) idle))
  where
    go : (t k : Bool) → has_key key job ≡ k → (t && k) ≡ false → list_any (has_key key) (filter (is_other key) jobs) ≡ false
        → list_any (has_key key) (cond (not (not t && k)) (job ∷ filter (is_other key) jobs) (filter (is_other key) jobs)) ≡ false
    go true true e out later = cc
    go true false e out later = rw (e, later) refl
    go false true e out later = later
    go false false e out later = rw (e, later) refl

pub push-apart : (jobs : List Job) (job : Job) → KeysApart jobs → list_any (has_key job.key) jobs ≡ false → KeysApart (jobs ++ job ∷ [])
push-apart [] job a e = (refl, tt)
push-apart (x ∷ xs) job a e =
    let other : has_key x.key job ≡ false = same_key-sym x.key job.key ∙ or_first (has_key job.key x) (list_any (has_key job.key) xs) e in
    let last : list_any (has_key x.key) (job ∷ []) ≡ false = rw other refl in
    (any-append (has_key x.key) xs (job ∷ []) a.0 last, push-apart xs job a.1 (or_later (has_key job.key x) (list_any (has_key job.key) xs) e))

push-jobs : (jobs : List Job) (job : Job) → AllJobs jobs → IsJob job → AllJobs (jobs ++ job ∷ [])
push-jobs [] job all is = (is, tt)
push-jobs (x ∷ xs) job all is = (all.0, push-jobs xs job all.1 is)

pub kept-running : (jobs : List Job) (job : Job) → length (running (keep jobs job)) ≡ length (running jobs) + one_if (is_running job)
kept-running jobs job =
    let others = filter (is_other job.key) jobs in
    let split : running (with_room others ++ job ∷ []) ≡ running (with_room others) ++ running (job ∷ []) = filter-append is_running (with_room others) (job ∷ []) in
    let same : running (with_room others) ≡ running jobs = trims-running others (with_room others) (trims-room others) ∙ trims-running jobs others (trims-filter job.key jobs) in
    let last = running-more job [] in
    let parts : length (running (with_room others) ++ running (job ∷ [])) ≡ length (running (with_room others)) + length (running (job ∷ [])) = length-append (running (with_room others)) (running (job ∷ [])) in
    let whole : length (running (keep jobs job)) ≡ length (running (with_room others) ++ running (job ∷ [])) = ap length split in
    let long : length (running (with_room others)) ≡ length (running jobs) = ap length same in
    omega arith

pub kept-reserved : (jobs : List Job) (job : Job) → reserved (keep jobs job) ≡ reserved jobs + reserved_for job.work
kept-reserved jobs job =
    let others = filter (is_other job.key) jobs in
    let split : reserved (keep jobs job) ≡ reserved (with_room others) + reserved (job ∷ []) = sum_by-append (λ (j : Job). reserved_for j.work) (with_room others) (job ∷ []) in
    let same : reserved (with_room others) ≡ reserved jobs = trims-reserved others (with_room others) (trims-room others) ∙ trims-reserved jobs others (trims-filter job.key jobs) in
    omega arith

pub kept-table : (jobs : List Job) (job : Job) (own_running own_reserved : ℕ) → IsTable jobs own_running own_reserved → IsJob job
    → is_busy job.key jobs ≡ false → (is_running job ≡ true → is_crowded jobs ≡ false)
    → IsTable (keep jobs job) (own_running + one_if (is_running job)) (own_reserved + reserved_for job.work)
kept-table jobs job own_running own_reserved is new idle room =
    let others = filter (is_other job.key) jobs in
    let first = trims-filter job.key jobs in
    let second = trims-room others in
    let fresh : list_any (has_key job.key) (with_room others) ≡ false = trims-any (has_key job.key) others (with_room others) second (fresh-key job.key jobs idle) in
    let counted = kept-running jobs job in
    let freed = kept-reserved jobs job in
    let short : length others ≤ length jobs = trims-length jobs others first in
    let alike : length (running others) ≡ length (running jobs) = ap length (trims-running jobs others first) in
    let long : length (keep jobs job) ≡ length (with_room others) + 1 = length-append (with_room others) (job ∷ []) in
    let fits = room-length others (let few = is.few in omega arith) (let few = is.few_running in omega arith) in
    record {
      counts_running = let own = is.counts_running in omega arith;
      counts_reserved = let own = is.counts_reserved in omega arith;
      few_running = go (is_running job) counted room;
      few = omega arith;
      apart = push-apart (with_room others) job (trims-apart others (with_room others) second (trims-apart jobs others first is.apart)) fresh;
      jobs = push-jobs (with_room others) job (trims-jobs others (with_room others) second (trims-jobs jobs others first is.jobs)) new;
    }
  where
    go : (t : Bool) → length (running (keep jobs job)) ≡ length (running jobs) + one_if t → (t ≡ true → is_crowded jobs ≡ false) → length (running (keep jobs job)) ≤ running_operations
    go true e some = let free : nat_le 64 (length (running jobs)) ≡ false = some refl in grind (arith, nat_tests)
    go false e some = let few = is.few_running in omega arith

-- ---- the jobs with the new one, before one makes room

pub kept-less : (jobs : List Job) (job : Job) → length (filter (is_other job.key) jobs ++ job ∷ []) ≤ kept_operations → filter (is_other job.key) jobs ++ job ∷ [] ≡ keep jobs job
kept-less jobs job low =
    let others = filter (is_other job.key) jobs in
    let long : length (others ++ job ∷ []) ≡ length others + 1 = length-append others (job ∷ []) in
    let free : (length others == kept_operations) ≡ false = grind (arith, nat_tests) in
    rw free refl

pub kept-full : (jobs : List Job) (job : Job) → length jobs ≤ kept_operations → length (running jobs) ≤ running_operations
    → kept_operations < length (filter (is_other job.key) jobs ++ job ∷ [])
    → without_first has_ended (filter (is_other job.key) jobs ++ job ∷ []) ≡ keep jobs job
kept-full jobs job few runs more = go (find has_ended (filter (is_other job.key) jobs)) refl
  where
    go : (o : Option Job) → find has_ended (filter (is_other job.key) jobs) ≡ o → without_first has_ended (filter (is_other job.key) jobs ++ job ∷ []) ≡ keep jobs job
    go (Some ended) e =
        let long : length (filter (is_other job.key) jobs ++ job ∷ []) ≡ length (filter (is_other job.key) jobs) + 1 = length-append (filter (is_other job.key) jobs) (job ∷ []) in
        let short = trims-length jobs (filter (is_other job.key) jobs) (trims-filter job.key jobs) in
        let full : (length (filter (is_other job.key) jobs) == kept_operations) ≡ true = grind (arith, nat_tests) in
        rw full (without-pushed has_ended (filter (is_other job.key) jobs) job ended e)
    go None e =
        let long : length (filter (is_other job.key) jobs ++ job ∷ []) ≡ length (filter (is_other job.key) jobs) + 1 = length-append (filter (is_other job.key) jobs) (job ∷ []) in
        let all = all-run (filter (is_other job.key) jobs) (find-none has_ended (filter (is_other job.key) jobs) e) in
        let same : length (running (filter (is_other job.key) jobs)) ≡ length (running jobs) = ap length (trims-running jobs (filter (is_other job.key) jobs) (trims-filter job.key jobs)) in
        absurd (omega arith)
