-- The first job that a test holds of
use Rattle.std.proofs.Common.{◌≡◌, ◌<◌, List, [], ◌∷◌, length, refl, ap, sym, ◌∙◌, arith, one-add, true, false, Bool}
use Rattle.std.specs.Prelude.{◌||◌, Some, find, cond, get_or}
use Rattle.std.specs.List.{list_any, position_or_len}
use Rattle.copy_jobs.specs.declared.job.Job.{Job}
use Rattle.copy_jobs.specs.inner.Tables.{IsJob, AllJobs}

-- the job, and that the test holds of it
pub record Found (test : Job → Bool) (jobs : List Job) : Type 0 where
  pub job : Job
  pub is : find test jobs ≡ Some job
  pub passes : test job ≡ true
  pub within : position_or_len test jobs < length jobs
  pub stands : (d : Job) → get_or jobs (position_or_len test jobs) d ≡ job

pub found : (test : Job → Bool) (jobs : List Job) → list_any test jobs ≡ true → Found test jobs
found test [] e = cc
found test (x ∷ xs) e = go (test x) refl e (found test xs)
  where
    go : (t : Bool) → test x ≡ t → (t || list_any test xs) ≡ true → (list_any test xs ≡ true → Found test xs) → Found test (x ∷ xs)
    go true h f later = record { job = x; is = rw h refl; passes = h; within = rw h (omega arith); stands = λ d. rw h refl }
    go false h f later =
        let rest = later f in
        record {
          job = rest.job;
          is = rw h rest.is;
          passes = rest.passes;
          within = rw (h, one-add) (let below = rest.within in omega arith);
          stands = λ d. rw (h, one-add) (rest.stands d);
        }

pub find-any : (test : Job → Bool) (jobs : List Job) (job : Job) → find test jobs ≡ Some job → list_any test jobs ≡ true
find-any test [] job e = cc
find-any test (x ∷ xs) job e = go (test x) e (find-any test xs job)
  where
    go : (t : Bool) → cond t (Some x) (find test xs) ≡ Some job → (find test xs ≡ Some job → list_any test xs ≡ true) → (t || list_any test xs) ≡ true
    go true f later = refl
    go false f later = later f

pub find-passes : (test : Job → Bool) (jobs : List Job) (job : Job) → find test jobs ≡ Some job → test job ≡ true
find-passes test jobs job e =
    let it = found test jobs (find-any test jobs job e) in
    let same : Some it.job ≡ Some job = sym it.is ∙ e in
    let alike : it.job ≡ job = cc in
    ap test (sym alike) ∙ it.passes

pub find-job : (test : Job → Bool) (jobs : List Job) (job : Job) → AllJobs jobs → find test jobs ≡ Some job → IsJob job
find-job test [] job all e = cc
find-job test (x ∷ xs) job all e = go (test x) e (find-job test xs job all.1)
  where
    go : (t : Bool) → cond t (Some x) (find test xs) ≡ Some job → (find test xs ≡ Some job → IsJob job) → IsJob job
    go true f later = let same : x ≡ job = cc in rw (← same) all.0
    go false f later = later f
