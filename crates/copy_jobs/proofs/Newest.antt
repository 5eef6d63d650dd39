-- The newest job, where it alone runs
use Rattle.std.proofs.Common.{◌≡◌, ◌+◌, List, [], ◌∷◌, ◌++◌, length, length-append, refl, ap, ◌∙◌, arith, true, false, Bool}
use Rattle.std.specs.Prelude.{◌||◌, ◌&&◌, not, Some, None, find, cond}
use Rattle.std.specs.List.{list_any}
use Rattle.std.proofs.lemmas.List.Elements.{filter-append}
use Rattle.copy_jobs.specs.declared.key.Key.{Key}
use Rattle.copy_jobs.specs.declared.job.Job.{Job}
use Rattle.copy_jobs.specs.declared.job.Work.{Work}
use Rattle.copy_jobs.specs.Jobs.{has_key, is_busy, is_running, is_running_work, running, has_ended}
use Rattle.copy_jobs.specs.inner.Entries.{job_of, jobs_of}
use Rattle.copy_jobs.specs.inner.Sought.{runs_so}
use Rattle.copy_jobs.proofs.Counts.{one_if, running-more}
use Rattle.copy_jobs.proofs.Entries.{find-last}

so-runs : (background : Bool) (work : Work) → is_running_work work ≡ false → runs_so background work ≡ false
so-runs background work e = rw e refl

-- where none runs, none is found
none-run : (background : Bool) (jobs : List Job) → length (running jobs) ≡ 0 → list_any (λ (job : Job). runs_so background job.work) jobs ≡ false
none-run background [] none = refl
none-run background (x ∷ xs) none = go (is_running x) refl (running-more x xs) (none-run background xs)
  where
    go : (t : Bool) → is_running x ≡ t → length (running (x ∷ xs)) ≡ one_if t + length (running xs)
        → (length (running xs) ≡ 0 → list_any (λ (job : Job). runs_so background job.work) xs ≡ false)
        → (runs_so background x.work || list_any (λ (job : Job). runs_so background job.work) xs) ≡ false
    go true e counted later = absurd (omega arith)
    go false e counted later = rw (so-runs background x.work e) (later (omega arith))

pub none-found : (background : Bool) (jobs : List Job) → length (running jobs) ≡ 0 → find (λ (job : Job). runs_so background job.work) jobs ≡ None
none-found background jobs none = off jobs (none-run background jobs none)
  where
    off : (xs : List Job) → list_any (λ (job : Job). runs_so background job.work) xs ≡ false → find (λ (job : Job). runs_so background job.work) xs ≡ None
    off [] e = refl
    off (x ∷ xs) e = go (runs_so background x.work) e (off xs)
      where
        go : (t : Bool) → (t || list_any (λ (job : Job). runs_so background job.work) xs) ≡ false
            → (list_any (λ (job : Job). runs_so background job.work) xs ≡ false → find (λ (job : Job). runs_so background job.work) xs ≡ None)
            → cond t (Some x) (find (λ (job : Job). runs_so background job.work) xs) ≡ None
        go true f later = cc
        go false f later = later f

pub none-busy : (key : Key) (jobs : List Job) → length (running jobs) ≡ 0 → is_busy key jobs ≡ false
none-busy key [] none = refl
none-busy key (x ∷ xs) none = go (is_running x) (has_key key x) (running-more x xs) (none-busy key xs)
  where
    go : (t k : Bool) → length (running (x ∷ xs)) ≡ one_if t + length (running xs) → (length (running xs) ≡ 0 → is_busy key xs ≡ false) → ((t && k) || is_busy key xs) ≡ false
    go true k counted later = absurd (omega arith)
    go false k counted later = later (omega arith)

pub newest-alone : (background : Bool) (entry : Key × Work) (entries : List (Key × Work)) → length (running (jobs_of (entry ∷ entries))) ≡ 1 → is_running_work entry.1 ≡ true
    → find (λ (job : Job). runs_so background job.work) (jobs_of (entry ∷ entries)) ≡ cond (runs_so background entry.1) (Some (job_of entry)) None
newest-alone background entry entries one runs =
    let split : running (jobs_of entries ++ job_of entry ∷ []) ≡ running (jobs_of entries) ++ running (job_of entry ∷ []) = filter-append is_running (jobs_of entries) (job_of entry ∷ []) in
    let sum : length (running (jobs_of entries) ++ running (job_of entry ∷ [])) ≡ length (running (jobs_of entries)) + length (running (job_of entry ∷ [])) = length-append (running (jobs_of entries)) (running (job_of entry ∷ [])) in
    let last : length (running (job_of entry ∷ [])) ≡ 1 = running-more (job_of entry) [] ∙ rw runs refl in
    let whole : length (running (jobs_of (entry ∷ entries))) ≡ length (running (jobs_of entries) ++ running (job_of entry ∷ [])) = ap length split in
    let none : length (running (jobs_of entries)) ≡ 0 = omega arith in
    find-last (λ (job : Job). runs_so background job.work) (jobs_of entries) (job_of entry) (none-run background (jobs_of entries) none)

-- ---- the first that has ended

-- where none has ended, all run
pub all-run : (jobs : List Job) → list_any has_ended jobs ≡ false → length (running jobs) ≡ length jobs
all-run [] e = refl
all-run (x ∷ xs) e = go (is_running x) e (running-more x xs) (all-run xs)
  where
    go : (t : Bool) → (not t || list_any has_ended xs) ≡ false → length (running (x ∷ xs)) ≡ one_if t + length (running xs)
        → (list_any has_ended xs ≡ false → length (running xs) ≡ length xs) → length (running (x ∷ xs)) ≡ length (x ∷ xs)
    go true f counted later = let rest = later f in omega arith
    go false f counted later = cc
