-- A table in which one job is changed
use Rattle.std.proofs.Common.{◌≡◌, suc, ◌+◌, ◌≤◌, List, [], ◌∷◌, length, refl, ap, ◌∙◌, arith, true, false, Bool}
use Rattle.std.specs.Prelude.{◌||◌, Some, find, cond, if◌then◌else◌}
use Rattle.std.specs.List.{list_any}
use Rattle.copy_jobs.specs.declared.key.Key.{Key}
use Rattle.copy_jobs.specs.declared.job.Job.{Job}
use Rattle.copy_jobs.specs.declared.job.Work.{Work}
use Rattle.copy_jobs.specs.Jobs.{has_key, is_running, running, reserved, reserved_for}
use Rattle.copy_jobs.specs.Changes.{change, with_work}
use Rattle.copy_jobs.specs.Tables.{KeysApart}
use Rattle.copy_jobs.specs.inner.Tables.{IsJob, AllJobs}
use Rattle.copy_jobs.proofs.Counts.{one_if, running-more, reserved-more}

pub change-length : (test : Job → Bool) (f : Job → Job) (jobs : List Job) → length (change test f jobs) ≡ length jobs
change-length test f [] = refl
change-length test f (x ∷ xs) = go (test x) (change-length test f xs)
  where
    go : (t : Bool) → length (change test f xs) ≡ length xs → length (if t then f x ∷ xs else x ∷ change test f xs) ≡ suc (length xs)
    go true later = refl
    go false later = ap suc later

pub change-running : (test : Job → Bool) (f : Job → Job) (jobs : List Job) (job : Job) → find test jobs ≡ Some job
    → length (running (change test f jobs)) + one_if (is_running job) ≡ length (running jobs) + one_if (is_running (f job))
change-running test f [] job e = cc
change-running test f (x ∷ xs) job e = go (test x) e (change-running test f xs job)
  where
    go : (t : Bool) → cond t (Some x) (find test xs) ≡ Some job
        → (find test xs ≡ Some job → length (running (change test f xs)) + one_if (is_running job) ≡ length (running xs) + one_if (is_running (f job)))
        → length (running (if t then f x ∷ xs else x ∷ change test f xs)) + one_if (is_running job) ≡ length (running (x ∷ xs)) + one_if (is_running (f job))
    go true g later =
        let same : job ≡ x = cc in
        let was = running-more x xs in
        let now = running-more (f x) xs in
        rw same (omega arith)
    go false g later =
        let rest = later g in
        let was = running-more x xs in
        let now = running-more x (change test f xs) in
        omega arith

pub change-reserved : (test : Job → Bool) (f : Job → Job) (jobs : List Job) (job : Job) → find test jobs ≡ Some job
    → reserved (change test f jobs) + reserved_for job.work ≡ reserved jobs + reserved_for (f job).work
change-reserved test f [] job e = cc
change-reserved test f (x ∷ xs) job e = go (test x) e (change-reserved test f xs job)
  where
    was : reserved (x ∷ xs) ≡ reserved_for x.work + reserved xs
    was = reserved-more x xs

    go : (t : Bool) → cond t (Some x) (find test xs) ≡ Some job
        → (find test xs ≡ Some job → reserved (change test f xs) + reserved_for job.work ≡ reserved xs + reserved_for (f job).work)
        → reserved (if t then f x ∷ xs else x ∷ change test f xs) + reserved_for job.work ≡ reserved (x ∷ xs) + reserved_for (f job).work
    go true g later =
        let same : job ≡ x = cc in
        let now : reserved (f x ∷ xs) ≡ reserved_for (f x).work + reserved xs = reserved-more (f x) xs in
        rw same (omega (arith, was, now))
    go false g later =
        let rest = later g in
        let now : reserved (x ∷ change test f xs) ≡ reserved_for x.work + reserved (change test f xs) = reserved-more x (change test f xs) in
        omega (arith, was, now)

-- what is kept free for one job is kept free for all
pub reserved-one : (jobs : List Job) (test : Job → Bool) (job : Job) → find test jobs ≡ Some job → reserved_for job.work ≤ reserved jobs
reserved-one [] test job e = cc
reserved-one (x ∷ xs) test job e = go (test x) e (reserved-one xs test job)
  where
    all : reserved (x ∷ xs) ≡ reserved_for x.work + reserved xs
    all = reserved-more x xs

    go : (t : Bool) → cond t (Some x) (find test xs) ≡ Some job → (find test xs ≡ Some job → reserved_for job.work ≤ reserved xs) → reserved_for job.work ≤ reserved (x ∷ xs)
    go true f later = let same : job ≡ x = cc in rw same (omega (arith, all))
    go false f later = let rest = later f in omega (arith, all, rest)

-- ---- a change of the work alone

any-changed : (test : Job → Bool) (f : Work → Work) (key : Key) (jobs : List Job) → list_any (has_key key) (change test (with_work f) jobs) ≡ list_any (has_key key) jobs
any-changed test f key [] = refl
any-changed test f key (x ∷ xs) = go (test x) (any-changed test f key xs)
  where
    go : (t : Bool) → list_any (has_key key) (change test (with_work f) xs) ≡ list_any (has_key key) xs
        → list_any (has_key key) (if t then with_work f x ∷ xs else x ∷ change test (with_work f) xs) ≡ (has_key key x || list_any (has_key key) xs)
    go true later = refl
    go false later = ap (λ b. has_key key x || b) later

pub change-apart : (test : Job → Bool) (f : Work → Work) (jobs : List Job) → KeysApart jobs → KeysApart (change test (with_work f) jobs)
change-apart test f [] a = tt
change-apart test f (x ∷ xs) a = go (test x) (change-apart test f xs a.1)
  where
    go : (t : Bool) → KeysApart (change test (with_work f) xs) → KeysApart (if t then with_work f x ∷ xs else x ∷ change test (with_work f) xs)
    go true later = a
    go false later = (any-changed test f x.key xs ∙ a.0, later)

pub change-jobs : (test : Job → Bool) (f : Job → Job) (jobs : List Job) (job : Job) → find test jobs ≡ Some job → AllJobs jobs → IsJob (f job) → AllJobs (change test f jobs)
change-jobs test f [] job e all is = tt
change-jobs test f (x ∷ xs) job e all is = go (test x) e (λ g. change-jobs test f xs job g all.1 is)
  where
    go : (t : Bool) → cond t (Some x) (find test xs) ≡ Some job → (find test xs ≡ Some job → AllJobs (change test f xs)) → AllJobs (if t then f x ∷ xs else x ∷ change test f xs)
    go true g later = let same : x ≡ job = cc in (rw same is, all.1)
    go false g later = (all.0, later g)
