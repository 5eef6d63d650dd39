-- The jobs as they lie under their keys
use Rattle.std.proofs.Common.{◌≡◌, ℕ, zero, suc, ◌+◌, ◌-◌, ◌<◌, ◌≤◌, List, [], ◌∷◌, ◌++◌, length, length-append, append-nil, take, refl, ap, sym, ◌∙◌, arith, true, false, Bool}
use Rattle.std.specs.Prelude.{◌||◌, ◌&&◌, not, Option, Some, None, slice_get, find, filter, cond, if◌then◌else◌}
use Rattle.std.specs.List.{list_any}
use Rattle.std.specs.Option.{option_map, option_map_or}
use Rattle.std.specs.Map.{lookup, lookup_entry, remove_entry, set_value}
use Rattle.std.proofs.lemmas.List.Elements.{filter-append}
use Rattle.lru.specs.LruCache.{LruCache, put_entries, last_entry}
use Rattle.lru.proofs.Pairs.{last_of_push}
use Rattle.copy_jobs.specs.declared.key.Key.{Key}
use Rattle.copy_jobs.specs.declared.job.Job.{Job}
use Rattle.copy_jobs.specs.declared.job.Work.{Work}
use Rattle.copy_jobs.specs.Keys.{same_key}
use Rattle.copy_jobs.specs.Jobs.{has_key, is_running, is_running_work, runs_as, is_busy}
use Rattle.copy_jobs.specs.Keeping.{is_other, without_first}
use Rattle.copy_jobs.specs.Changes.{change, with_work}
use Rattle.copy_jobs.specs.Tables.{KeysApart}
use Rattle.copy_jobs.specs.inner.Entries.{job_of, jobs_of, first_runs}
use Rattle.copy_jobs.proofs.Lists.{or_first, or_later}
use Rattle.copy_jobs.proofs.SameKeys.{same_key-sym, same_key-refl, same_key-is, any-alike, same-all}
use Rattle.copy_jobs.proofs.Next.{other-key}

-- ---- one more at the end

any-pushed : {X : Type 0} (p : X → Bool) (xs : List X) (x : X) → list_any p (xs ++ x ∷ []) ≡ false → (list_any p xs ≡ false) × (p x ≡ false)
any-pushed p [] x e = (refl, or_first (p x) false e)
any-pushed p (y ∷ ys) x e =
    let here : p y ≡ false = or_first (p y) (list_any p (ys ++ x ∷ [])) e in
    let rest = any-pushed p ys x (or_later (p y) (list_any p (ys ++ x ∷ [])) e) in
    (rw (here, rest.0) refl, rest.1)

apart-pushed : (xs : List Job) (job : Job) → KeysApart (xs ++ job ∷ []) → KeysApart xs × (list_any (has_key job.key) xs ≡ false)
apart-pushed [] job a = (tt, refl)
apart-pushed (x ∷ xs) job a =
    let here = any-pushed (has_key x.key) xs job a.0 in
    let rest = apart-pushed xs job a.1 in
    let other : has_key job.key x ≡ false = same_key-sym job.key x.key ∙ here.1 in
    ((here.0, rest.0), rw (other, rest.1) refl)

pub find-off : {X : Type 0} (p : X → Bool) (xs : List X) (x : X) → p x ≡ false → find p (xs ++ x ∷ []) ≡ find p xs
find-off p [] x e = rw e refl
find-off p (y ∷ ys) x e = ap (cond (p y) (Some y)) (find-off p ys x e)

pub find-last : {X : Type 0} (p : X → Bool) (xs : List X) (x : X) → list_any p xs ≡ false → find p (xs ++ x ∷ []) ≡ cond (p x) (Some x) None
find-last p [] x e = refl
find-last p (y ∷ ys) x e =
    let here : p y ≡ false = or_first (p y) (list_any p ys) e in
    rw here (find-last p ys x (or_later (p y) (list_any p ys) e))

find-first : {X : Type 0} (p : X → Bool) (xs : List X) (x y : X) → find p xs ≡ Some y → find p (xs ++ x ∷ []) ≡ Some y
find-first p [] x y e = cc
find-first p (z ∷ zs) x y e = go (p z) e (find-first p zs x y)
  where
    go : (t : Bool) → cond t (Some z) (find p zs) ≡ Some y → (find p zs ≡ Some y → find p (zs ++ x ∷ []) ≡ Some y) → cond t (Some z) (find p (zs ++ x ∷ [])) ≡ Some y
    go true f later = f
    go false f later = later f

pub find-none : {X : Type 0} (p : X → Bool) (xs : List X) → find p xs ≡ None → list_any p xs ≡ false
find-none p [] e = refl
find-none p (x ∷ xs) e = go (p x) e (find-none p xs)
  where
    go : (t : Bool) → cond t (Some x) (find p xs) ≡ None → (find p xs ≡ None → list_any p xs ≡ false) → (t || list_any p xs) ≡ false
    go true f later = cc
    go false f later = later f

pub without-pushed : (p : Job → Bool) (xs : List Job) (x y : Job) → find p xs ≡ Some y → without_first p (xs ++ x ∷ []) ≡ without_first p xs ++ x ∷ []
without-pushed p [] x y e = cc
without-pushed p (z ∷ zs) x y e = go (p z) e (without-pushed p zs x y)
  where
    go : (t : Bool) → cond t (Some z) (find p zs) ≡ Some y → (find p zs ≡ Some y → without_first p (zs ++ x ∷ []) ≡ without_first p zs ++ x ∷ [])
        → (if t then zs ++ x ∷ [] else z ∷ without_first p (zs ++ x ∷ [])) ≡ (if t then zs else z ∷ without_first p zs) ++ x ∷ []
    go true f later = refl
    go false f later = ap (λ l. z ∷ l) (later f)

without-last : (p : Job → Bool) (xs : List Job) (x : Job) → list_any p xs ≡ false → p x ≡ true → without_first p (xs ++ x ∷ []) ≡ xs
without-last p [] x e h = rw h refl
without-last p (y ∷ ys) x e h =
    let here : p y ≡ false = or_first (p y) (list_any p ys) e in
    rw here (ap (λ l. y ∷ l) (without-last p ys x (or_later (p y) (list_any p ys) e) h))

pub without-none : (p : Job → Bool) (xs : List Job) → list_any p xs ≡ false → without_first p xs ≡ xs
without-none p [] e = refl
without-none p (x ∷ xs) e =
    let here : p x ≡ false = or_first (p x) (list_any p xs) e in
    rw here (ap (λ l. x ∷ l) (without-none p xs (or_later (p x) (list_any p xs) e)))

change-off : (test : Job → Bool) (f : Job → Job) (xs : List Job) (x : Job) → test x ≡ false → change test f (xs ++ x ∷ []) ≡ change test f xs ++ x ∷ []
change-off test f [] x e = rw e refl
change-off test f (y ∷ ys) x e = go (test y) (change-off test f ys x e)
  where
    go : (t : Bool) → change test f (ys ++ x ∷ []) ≡ change test f ys ++ x ∷ []
        → (if t then f y ∷ ys ++ x ∷ [] else y ∷ change test f (ys ++ x ∷ [])) ≡ (if t then f y ∷ ys else y ∷ change test f ys) ++ x ∷ []
    go true later = refl
    go false later = ap (λ l. y ∷ l) later

change-last : (test : Job → Bool) (f : Job → Job) (xs : List Job) (x : Job) → list_any test xs ≡ false → test x ≡ true → change test f (xs ++ x ∷ []) ≡ xs ++ f x ∷ []
change-last test f [] x e h = rw h refl
change-last test f (y ∷ ys) x e h =
    let here : test y ≡ false = or_first (test y) (list_any test ys) e in
    rw here (ap (λ l. y ∷ l) (change-last test f ys x (or_later (test y) (list_any test ys) e) h))

-- ---- what lies under a key

-- the test holds of the key alone
abbrev pub IsOwn : Key → (Key → Bool) → Type 0
IsOwn key own = (other : Key) → own other ≡ same_key key other

-- where a job of a key runs, and where none has it
any-runs : (key : Key) (xs : List Job) → list_any (has_key key) xs ≡ false → list_any (runs_as key) xs ≡ false
any-runs key [] e = refl
any-runs key (x ∷ xs) e =
    let here : has_key key x ≡ false = or_first (has_key key x) (list_any (has_key key) xs) e in
    rw (here, any-runs key xs (or_later (has_key key x) (list_any (has_key key) xs) e)) (and-none (is_running x))
  where
    and-none : (a : Bool) → ((a && false) || false) ≡ false
    and-none true = refl
    and-none false = refl

-- the jobs before the newest have none of its key
before : (key : Key) (entry : Key × Work) (entries : List (Key × Work)) → KeysApart (jobs_of (entry ∷ entries)) → same_key key entry.0 ≡ true → list_any (has_key key) (jobs_of entries) ≡ false
before key entry entries a e = any-alike key entry.0 (jobs_of entries) e (apart-pushed (jobs_of entries) (job_of entry) a).1

abbrev pub job-under : Key → Work → Job
job-under key work = record { key = key; work = work }

pub looked-up : (key : Key) (own : Key → Bool) (entries : List (Key × Work)) → IsOwn key own → KeysApart (jobs_of entries)
    → find (has_key key) (jobs_of entries) ≡ option_map (job-under key) (lookup own entries)
looked-up key own [] is a = refl
looked-up key own (entry ∷ entries) is a = go (own entry.0) (sym (is entry.0)) (looked-up key own entries is (apart-pushed (jobs_of entries) (job_of entry) a).0)
  where
    go : (t : Bool) → same_key key entry.0 ≡ t → find (has_key key) (jobs_of entries) ≡ option_map (job-under key) (lookup own entries)
        → find (has_key key) (jobs_of entries ++ job_of entry ∷ []) ≡ option_map (job-under key) (cond t (Some entry.1) (lookup own entries))
    go true e later =
        find-last (has_key key) (jobs_of entries) (job_of entry) (before key entry entries a e) ∙ rw (e, same_key-is key entry.0 e) refl
    go false e later = find-off (has_key key) (jobs_of entries) (job_of entry) e ∙ later

pub removed : (key : Key) (own : Key → Bool) (entries : List (Key × Work)) → IsOwn key own → KeysApart (jobs_of entries) → is_busy key (jobs_of entries) ≡ false
    → jobs_of (remove_entry own entries) ≡ filter (is_other key) (jobs_of entries)
removed key own [] is a idle = refl
removed key own (entry ∷ entries) is a idle = go (own entry.0) (sym (is entry.0)) (removed key own entries is (apart-pushed (jobs_of entries) (job_of entry) a).0 rest.0)
  where
    rest : (list_any (runs_as key) (jobs_of entries) ≡ false) × (runs_as key (job_of entry) ≡ false)
    rest = any-pushed (runs_as key) (jobs_of entries) (job_of entry) idle

    split : filter (is_other key) (jobs_of entries ++ job_of entry ∷ []) ≡ filter (is_other key) (jobs_of entries) ++ filter (is_other key) (job_of entry ∷ [])
    split = filter-append (is_other key) (jobs_of entries) (job_of entry ∷ [])

    kept : (r k : Bool) → (r && k) ≡ false → k ≡ true → not (not r && k) ≡ false
    kept true true e h = cc
    kept true false e h = cc
    kept false true e h = refl
    kept false false e h = cc

    other : (r k : Bool) → k ≡ false → not (not r && k) ≡ true
    other true k e = refl
    other false k e = rw e refl

    go : (t : Bool) → same_key key entry.0 ≡ t → jobs_of (remove_entry own entries) ≡ filter (is_other key) (jobs_of entries)
        → jobs_of (cond t entries (entry ∷ remove_entry own entries)) ≡ filter (is_other key) (jobs_of entries ++ job_of entry ∷ [])
    go true e later =
        let all = same-all key (jobs_of entries) (before key entry entries a e) in
        let goes : is_other key (job_of entry) ≡ false = kept (is_running (job_of entry)) (has_key key (job_of entry)) rest.1 e in
        sym (split ∙ rw (goes, all) (append-nil (jobs_of entries)))
    go false e later =
        let stays : is_other key (job_of entry) ≡ true = other (is_running (job_of entry)) (has_key key (job_of entry)) e in
        sym (split ∙ rw (stays, ← later) refl)

pub removed-first : (test : Job → Bool) (own : Key → Bool) (entries : List (Key × Work)) (job : Job) → IsOwn job.key own → KeysApart (jobs_of entries) → find test (jobs_of entries) ≡ Some job
    → jobs_of (remove_entry own entries) ≡ without_first test (jobs_of entries)
removed-first test own [] job is a e = cc
removed-first test own (entry ∷ entries) job is a e = go (find test (jobs_of entries)) refl (removed-first test own entries job is parts.0)
  where
    parts : KeysApart (jobs_of entries) × (list_any (has_key entry.0) (jobs_of entries) ≡ false)
    parts = apart-pushed (jobs_of entries) (job_of entry) a

    go : (o : Option Job) → find test (jobs_of entries) ≡ o → (find test (jobs_of entries) ≡ Some job → jobs_of (remove_entry own entries) ≡ without_first test (jobs_of entries))
        → jobs_of (cond (own entry.0) entries (entry ∷ remove_entry own entries)) ≡ without_first test (jobs_of entries ++ job_of entry ∷ [])
    go (Some first) h later =
        let told : Some first ≡ Some job = sym (find-first test (jobs_of entries) (job_of entry) first h) ∙ e in
        let same : first ≡ job = cc in
        let found : find test (jobs_of entries) ≡ Some job = h ∙ ap Some same in
        let off : own entry.0 ≡ false = is entry.0 ∙ same_key-sym job.key entry.0 ∙ other-key test entry.0 (jobs_of entries) job parts.1 found in
        rw off (ap (λ l. l ++ job_of entry ∷ []) (later found) ∙ sym (without-pushed test (jobs_of entries) (job_of entry) job found))
    go None h later =
        let none = find-none test (jobs_of entries) h in
        let told : cond (test (job_of entry)) (Some (job_of entry)) None ≡ Some job = sym (find-last test (jobs_of entries) (job_of entry) none) ∙ e in
        last (test (job_of entry)) refl told none
      where
        last : (t : Bool) → test (job_of entry) ≡ t → cond t (Some (job_of entry)) None ≡ Some job → list_any test (jobs_of entries) ≡ false
            → jobs_of (cond (own entry.0) entries (entry ∷ remove_entry own entries)) ≡ without_first test (jobs_of entries ++ job_of entry ∷ [])
        last true t told none =
            let same : job_of entry ≡ job = cc in
            let key : job.key ≡ entry.0 = ap (λ (j : Job). j.key) (sym same) in
            let on : own entry.0 ≡ true = is entry.0 ∙ rw key (same_key-refl entry.0) in
            rw on (sym (without-last test (jobs_of entries) (job_of entry) none t))
        last false t told none = cc

-- with other work under a key whose job runs
pub changed : (key : Key) (own : Key → Bool) (f : Work → Work) (entries : List (Key × Work)) (work : Work) → IsOwn key own → KeysApart (jobs_of entries)
    → lookup own entries ≡ Some work → is_running_work work ≡ true
    → jobs_of (set_value own entries (f work)) ≡ change (runs_as key) (with_work f) (jobs_of entries)
changed key own f [] work is a e runs = cc
changed key own f (entry ∷ entries) work is a e runs = go (own entry.0) (sym (is entry.0)) e (λ g. changed key own f entries work is (apart-pushed (jobs_of entries) (job_of entry) a).0 g runs)
  where
    off : (r k : Bool) → k ≡ false → (r && k) ≡ false
    off true k e = e
    off false k e = refl

    go : (t : Bool) → same_key key entry.0 ≡ t → cond t (Some entry.1) (lookup own entries) ≡ Some work
        → (lookup own entries ≡ Some work → jobs_of (set_value own entries (f work)) ≡ change (runs_as key) (with_work f) (jobs_of entries))
        → jobs_of (cond t ((entry.0, f work) ∷ entries) (entry ∷ set_value own entries (f work))) ≡ change (runs_as key) (with_work f) (jobs_of entries ++ job_of entry ∷ [])
    go true h g later =
        let same : entry.1 ≡ work = cc in
        let on : runs_as key (job_of entry) ≡ true = rw (same, runs, h) refl in
        let none = any-runs key (jobs_of entries) (before key entry entries a h) in
        rw (← same) (sym (change-last (runs_as key) (with_work f) (jobs_of entries) (job_of entry) none on))
    go false h g later =
        let not-own : runs_as key (job_of entry) ≡ false = off (is_running (job_of entry)) (has_key key (job_of entry)) h in
        ap (λ l. l ++ job_of entry ∷ []) (later g) ∙ sym (change-off (runs_as key) (with_work f) (jobs_of entries) (job_of entry) not-own)

-- ---- one more job

pub length-jobs : (entries : List (Key × Work)) → length (jobs_of entries) ≡ length entries
length-jobs [] = refl
length-jobs (entry ∷ entries) = let rest = length-jobs entries in let sum = length-append (jobs_of entries) (job_of entry ∷ []) in omega (arith, sum, rest)

pub take-whole : {X : Type 0} (xs : List X) (n : ℕ) → length xs ≤ n → take n xs ≡ xs
take-whole [] zero h = refl
take-whole [] (suc n) h = refl
take-whole (x ∷ xs) zero h = absurd (omega arith)
take-whole (x ∷ xs) (suc n) h = ap (λ l. x ∷ l) (take-whole xs n (omega arith))

entry-own : (own : Key → Bool) (entries : List (Key × Work)) (entry : Key × Work) → lookup_entry own entries ≡ Some entry → own entry.0 ≡ true
entry-own own [] entry e = cc
entry-own own (x ∷ xs) entry e = go (own x.0) refl e (entry-own own xs entry)
  where
    go : (t : Bool) → own x.0 ≡ t → cond t (Some x) (lookup_entry own xs) ≡ Some entry → (lookup_entry own xs ≡ Some entry → own entry.0 ≡ true) → own entry.0 ≡ true
    go true h f later = let same : x ≡ entry = cc in rw (← same) h
    go false h f later = later f

none-removed : (own : Key → Bool) (entries : List (Key × Work)) → lookup_entry own entries ≡ None → remove_entry own entries ≡ entries
none-removed own [] e = refl
none-removed own (x ∷ xs) e = go (own x.0) e (none-removed own xs)
  where
    go : (t : Bool) → cond t (Some x) (lookup_entry own xs) ≡ None → (lookup_entry own xs ≡ None → remove_entry own xs ≡ xs) → cond t xs (x ∷ remove_entry own xs) ≡ x ∷ xs
    go true f later = cc
    go false f later = ap (λ l. x ∷ l) (later f)

-- where none is kept under its key, all stay
pub fresh : (own : Key → Bool) (entries : List (Key × Work)) (key : Key) → IsOwn key own → KeysApart (jobs_of entries) → is_busy key (jobs_of entries) ≡ false
    → lookup_entry own entries ≡ None → filter (is_other key) (jobs_of entries) ≡ jobs_of entries
fresh own entries key is a idle none = sym (removed key own entries is a idle) ∙ ap jobs_of (none-removed own entries none)

removed-length : (own : Key → Bool) (entries : List (Key × Work)) (entry : Key × Work) → lookup_entry own entries ≡ Some entry → length (remove_entry own entries) + 1 ≡ length entries
removed-length own [] entry e = cc
removed-length own (x ∷ xs) entry e = go (own x.0) e (removed-length own xs entry)
  where
    go : (t : Bool) → cond t (Some x) (lookup_entry own xs) ≡ Some entry → (lookup_entry own xs ≡ Some entry → length (remove_entry own xs) + 1 ≡ length xs)
        → length (cond t xs (x ∷ remove_entry own xs)) + 1 ≡ length (x ∷ xs)
    go true f later = omega arith
    go false f later = let rest = later f in omega arith

-- where one is, it goes
pub fewer : (own : Key → Bool) (entries : List (Key × Work)) (key : Key) (entry : Key × Work) → IsOwn key own → KeysApart (jobs_of entries) → is_busy key (jobs_of entries) ≡ false
    → lookup_entry own entries ≡ Some entry → length (filter (is_other key) (jobs_of entries)) + 1 ≡ length entries
fewer own entries key entry is a idle e =
    let left : length (jobs_of (remove_entry own entries)) ≡ length (filter (is_other key) (jobs_of entries)) = ap length (removed key own entries is a idle) in
    let long = length-jobs (remove_entry own entries) in
    let one = removed-length own entries entry e in
    omega arith

pub put-again : (own : Key → Bool) (entries : List (Key × Work)) (job : Job) (entry : Key × Work) → IsOwn job.key own → KeysApart (jobs_of entries) → is_busy job.key (jobs_of entries) ≡ false
    → lookup_entry own entries ≡ Some entry → jobs_of ((entry.0, job.work) ∷ remove_entry own entries) ≡ filter (is_other job.key) (jobs_of entries) ++ job ∷ []
put-again own entries job entry is a idle e =
    let same : same_key job.key entry.0 ≡ true = sym (is entry.0) ∙ entry-own own entries entry e in
    rw (← same_key-is job.key entry.0 same, removed job.key own entries is a idle) refl

pub put : (eq : Key → Key → Bool) (cache : LruCache Key Work) (job : Job) → IsOwn job.key (eq job.key) → KeysApart (jobs_of cache.entries) → is_busy job.key (jobs_of cache.entries) ≡ false
    → length cache.entries ≤ cache.cap - 1 → jobs_of (put_entries eq cache job.key job.work) ≡ filter (is_other job.key) (jobs_of cache.entries) ++ job ∷ []
put eq cache job is a idle low = go (lookup_entry (eq job.key) cache.entries) refl
  where
    go : (o : Option (Key × Work)) → lookup_entry (eq job.key) cache.entries ≡ o
        → jobs_of (option_map_or (λ e. (e.0, job.work) ∷ remove_entry (eq job.key) cache.entries) o ((job.key, job.work) ∷ take (cache.cap - 1) cache.entries))
        ≡ filter (is_other job.key) (jobs_of cache.entries) ++ job ∷ []
    go (Some entry) h = put-again (eq job.key) cache.entries job entry is a idle h
    go None h = rw (take-whole cache.entries (cache.cap - 1) low, fresh (eq job.key) cache.entries job.key is a idle h) refl

-- ---- the oldest

pub jobs-oldest : (entries : List (Key × Work)) (entry : Key × Work) → jobs_of (entries ++ entry ∷ []) ≡ job_of entry ∷ jobs_of entries
jobs-oldest [] entry = refl
jobs-oldest (x ∷ xs) entry = ap (λ l. l ++ job_of x ∷ []) (jobs-oldest xs entry)

pub find-oldest : (test : Job → Bool) (all entries : List (Key × Work)) (entry : Key × Work) → all ≡ entries ++ entry ∷ []
    → find test (jobs_of all) ≡ cond (test (job_of entry)) (Some (job_of entry)) (find test (jobs_of entries))
find-oldest test all entries entry e = ap (λ l. find test (jobs_of l)) e ∙ ap (find test) (jobs-oldest entries entry)

pub last : (entries : List (Key × Work)) → 0 < length entries → (rest : List (Key × Work)) × (entry : Key × Work) × (entries ≡ rest ++ entry ∷ [])
last [] some = absurd (omega arith)
last (x ∷ []) some = ([], x, refl)
last (x ∷ y ∷ ys) some = let it = last (y ∷ ys) (omega arith) in (x ∷ it.0, it.1, ap (λ l. x ∷ l) it.2)

-- the one that was kept first
pub first-runs : (entries : List (Key × Work)) (o : Option (Key × Work)) → o ≡ last_entry entries → first_runs (jobs_of entries) ≡ option_map_or (λ e. is_running_work e.1) o false
first-runs [] o e = rw e refl
first-runs (x ∷ xs) o e =
    let it = last (x ∷ xs) (omega arith) in
    let at : last_entry (x ∷ xs) ≡ Some it.1 = ap last_entry it.2 ∙ (last_of_push it.0 it.1).0 in
    let told : o ≡ Some it.1 = e ∙ at in
    ap (λ l. first_runs (jobs_of l)) it.2 ∙ ap first_runs (jobs-oldest it.0 it.1) ∙ rw told refl

pub newest : (entries : List (Key × Work)) (entry : Key × Work) → slice_get entries 0 ≡ Some entry → (rest : List (Key × Work)) × (entries ≡ entry ∷ rest)
newest [] entry e = cc
newest (x ∷ xs) entry e = let same : x ≡ entry = cc in (xs, ap (λ y. y ∷ xs) same)
