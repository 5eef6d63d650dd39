-- What is asked of the one job of a key
use Rattle.std.proofs.Common.{◌≡◌, List, [], ◌∷◌, refl, ap, sym, ◌∙◌, true, false, Bool}
use Rattle.std.specs.Prelude.{◌||◌, ◌&&◌, Option, Some, None, IfSome, find, cond}
use Rattle.std.specs.List.{list_any}
use Rattle.std.specs.Option.{option_map, option_map_or}
use Rattle.std.specs.Map.{lookup}
use Rattle.copy_jobs.specs.declared.key.Key.{Key}
use Rattle.copy_jobs.specs.declared.job.Job.{Job}
use Rattle.copy_jobs.specs.declared.job.Work.{Work}
use Rattle.copy_jobs.specs.Jobs.{has_key, is_running, is_running_work, runs_as, is_busy}
use Rattle.copy_jobs.specs.Pieces.{is_foreground, is_background, is_next, runs_in_background}
use Rattle.copy_jobs.specs.Tables.{KeysApart}
use Rattle.copy_jobs.specs.inner.Entries.{jobs_of}
use Rattle.copy_jobs.specs.inner.Sought.{runs_so}
use Rattle.copy_jobs.proofs.Lists.{or_first, or_later}
use Rattle.copy_jobs.proofs.SameKeys.{any-alike}
use Rattle.copy_jobs.proofs.Entries.{IsOwn, looked-up, job-under}

-- the test holds of jobs of the key alone, as the other does of their work
abbrev pub Asks : Key → (Work → Bool) → (Job → Bool) → Type 0
Asks key r test = (job : Job) → test job ≡ (has_key key job && r job.work)

none-asked : (key : Key) (r : Work → Bool) (test : Job → Bool) (jobs : List Job) → Asks key r test → list_any (has_key key) jobs ≡ false → list_any test jobs ≡ false
none-asked key r test [] asks e = refl
none-asked key r test (x ∷ xs) asks e =
    let here : has_key key x ≡ false = or_first (has_key key x) (list_any (has_key key) xs) e in
    let off : test x ≡ false = asks x ∙ rw here refl in
    rw (off, none-asked key r test xs asks (or_later (has_key key x) (list_any (has_key key) xs) e)) refl

none-found : (test : Job → Bool) (jobs : List Job) → list_any test jobs ≡ false → find test jobs ≡ None
none-found test [] e = refl
none-found test (x ∷ xs) e =
    let here : test x ≡ false = or_first (test x) (list_any test xs) e in
    rw here (none-found test xs (or_later (test x) (list_any test xs) e))

-- the job, if its work is such
abbrev pub if_so : (Work → Bool) → Option Job → Option Job
if_so r None = None
if_so r (Some job) = cond (r job.work) (Some job) None

pub any-own : (key : Key) (r : Work → Bool) (test : Job → Bool) (jobs : List Job) → Asks key r test → KeysApart jobs
    → list_any test jobs ≡ option_map_or (λ (job : Job). r job.work) (find (has_key key) jobs) false
any-own key r test [] asks a = refl
any-own key r test (x ∷ xs) asks a = go (has_key key x) refl (any-own key r test xs asks a.1)
  where
    or-none : (b : Bool) → (b || false) ≡ b
    or-none true = refl
    or-none false = refl

    go : (t : Bool) → has_key key x ≡ t → list_any test xs ≡ option_map_or (λ (job : Job). r job.work) (find (has_key key) xs) false
        → (test x || list_any test xs) ≡ option_map_or (λ (job : Job). r job.work) (cond t (Some x) (find (has_key key) xs)) false
    go true e later =
        let here : test x ≡ r x.work = asks x ∙ rw e refl in
        let none : list_any test xs ≡ false = none-asked key r test xs asks (any-alike key x.key xs e a.0) in
        rw (here, none) (or-none (r x.work))
    go false e later =
        let off : test x ≡ false = asks x ∙ rw e refl in
        rw off later

pub find-own : (key : Key) (r : Work → Bool) (test : Job → Bool) (jobs : List Job) → Asks key r test → KeysApart jobs → find test jobs ≡ if_so r (find (has_key key) jobs)
find-own key r test [] asks a = refl
find-own key r test (x ∷ xs) asks a = go (has_key key x) refl (find-own key r test xs asks a.1)
  where
    go : (t : Bool) → has_key key x ≡ t → find test xs ≡ if_so r (find (has_key key) xs) → cond (test x) (Some x) (find test xs) ≡ if_so r (cond t (Some x) (find (has_key key) xs))
    go true e later =
        let here : test x ≡ r x.work = asks x ∙ rw e refl in
        let none : find test xs ≡ None = none-found test xs (none-asked key r test xs asks (any-alike key x.key xs e a.0)) in
        rw (here, none) refl
    go false e later =
        let off : test x ≡ false = asks x ∙ rw e refl in
        rw off later

-- ---- the tests

runs-asks : (key : Key) → Asks key is_running_work (runs_as key)
runs-asks key job = swap (is_running job) (has_key key job)
  where
    swap : (a b : Bool) → (a && b) ≡ (b && a)
    swap true true = refl
    swap true false = refl
    swap false true = refl
    swap false false = refl

turned : (a b c : Bool) → ((a && b) && c) ≡ (b && (a && c))
turned true true c = refl
turned true false c = refl
turned false true c = refl
turned false false c = refl

background-asks : (key : Key) → Asks key (runs_so true) (runs_in_background key)
background-asks key job = turned (is_running job) (has_key key job) (is_background job.work)

foreground-asks : (key : Key) → Asks key (λ work. is_running_work work && is_foreground work) (is_next (Some key))
foreground-asks key job = turned (is_running job) (has_key key job) (is_foreground job.work)

-- ---- answers by what lies under the key

module _ (key : Key) (own : Key → Bool) (entries : List (Key × Work)) (is : IsOwn key own) (a : KeysApart (jobs_of entries)) (o : Option Work) (e : o ≡ lookup own entries) where
  pub under : find (has_key key) (jobs_of entries) ≡ option_map (job-under key) o
  under = looked-up key own entries is a ∙ ap (option_map (job-under key)) (sym e)

  pub busy-under : is_busy key (jobs_of entries) ≡ option_map_or is_running_work o false
  busy-under = any-own key is_running_work (runs_as key) (jobs_of entries) (runs-asks key) a ∙ rw under (of o)
    where
      of : (p : Option Work) → option_map_or (λ (job : Job). is_running_work job.work) (option_map (job-under key) p) false ≡ option_map_or is_running_work p false
      of None = refl
      of (Some work) = refl

  pub background-under : list_any (runs_in_background key) (jobs_of entries) ≡ option_map_or (runs_so true) o false
  background-under = any-own key (runs_so true) (runs_in_background key) (jobs_of entries) (background-asks key) a ∙ rw under (of o)
    where
      of : (p : Option Work) → option_map_or (λ (job : Job). runs_so true job.work) (option_map (job-under key) p) false ≡ option_map_or (runs_so true) p false
      of None = refl
      of (Some work) = refl

  pub next-under : find (is_next (Some key)) (jobs_of entries) ≡ if_so (λ work. is_running_work work && is_foreground work) (option_map (job-under key) o)
  next-under = find-own key (λ work. is_running_work work && is_foreground work) (is_next (Some key)) (jobs_of entries) (foreground-asks key) a ∙ ap (if_so (λ work. is_running_work work && is_foreground work)) under

  -- the job that runs as the key has the work
  pub running-under : (job : Job) → find (runs_as key) (jobs_of entries) ≡ Some job → IfSome o (λ work. work ≡ job.work)
  running-under job runs = of o (sym (find-own key is_running_work (runs_as key) (jobs_of entries) (runs-asks key) a ∙ ap (if_so is_running_work) under) ∙ runs)
    where
      so : (t : Bool) (work : Work) → cond t (Some (job-under key work)) None ≡ Some job → work ≡ job.work
      so true work f = let same : job-under key work ≡ job = cc in ap (λ (j : Job). j.work) same
      so false work f = cc

      of : (p : Option Work) → if_so is_running_work (option_map (job-under key) p) ≡ Some job → IfSome p (λ work. work ≡ job.work)
      of None f = tt
      of (Some work) f = so (is_running_work work) work f
