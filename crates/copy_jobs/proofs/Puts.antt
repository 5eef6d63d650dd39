-- A new job where 256 are kept at most
use Rattle.std.proofs.Common.{◌≡◌, ◌+◌, ◌<◌, ◌≤◌, List, [], ◌∷◌, ◌++◌, length, length-append, take, refl, ap, sym, ◌∙◌, arith, true, false, Bool}
use Rattle.std.specs.Prelude.{◌==◌, Option, Some, None, filter, if◌then◌else◌}
use Rattle.std.specs.Map.{lookup_entry}
use Rattle.std.proofs.Math.Seq.{take-append_seam}
use Rattle.std.proofs.lemmas.Bool.Decides.{nat_tests}
use Rattle.lru.specs.LruCache.{LruCache, put_entries}
use Rattle.cm_history.specs.Bounds.{kept_operations}
use Rattle.copy_jobs.specs.declared.key.Key.{Key}
use Rattle.copy_jobs.specs.declared.job.Job.{Job}
use Rattle.copy_jobs.specs.declared.job.Work.{Work}
use Rattle.copy_jobs.specs.Jobs.{has_ended, is_running, is_busy}
use Rattle.copy_jobs.specs.Keeping.{is_other, without_first, with_room, keep}
use Rattle.copy_jobs.specs.Tables.{KeysApart}
use Rattle.copy_jobs.specs.inner.Entries.{job_of, jobs_of, first_runs}
use Rattle.copy_jobs.proofs.Entries.{IsOwn, put, put-again, fresh, fewer, last, jobs-oldest, length-jobs}
use Rattle.copy_jobs.proofs.Keeps.{kept-less}
use Rattle.copy_jobs.proofs.Trims.{trims-filter, trims-length}

-- there is room for one more
with-one-more : (jobs : List Job) (job : Job) → length jobs < kept_operations → filter (is_other job.key) jobs ++ job ∷ [] ≡ keep jobs job
with-one-more jobs job low =
    let short = trims-length jobs (filter (is_other job.key) jobs) (trims-filter job.key jobs) in
    let long : length (filter (is_other job.key) jobs ++ job ∷ []) ≡ length (filter (is_other job.key) jobs) + 1 = length-append (filter (is_other job.key) jobs) (job ∷ []) in
    kept-less jobs job (omega arith)

-- none has its key, and the one that was kept first goes
over : (entries : List (Key × Work)) (job : Job) → filter (is_other job.key) (jobs_of entries) ≡ jobs_of entries → length entries ≡ kept_operations → first_runs (jobs_of entries) ≡ false
    → jobs_of (take 255 entries) ++ job ∷ [] ≡ keep (jobs_of entries) job
over entries job all full ended =
    let it = last entries (omega arith) in
    let whole : jobs_of entries ≡ job_of it.1 ∷ jobs_of it.0 = ap jobs_of it.2 ∙ jobs-oldest it.0 it.1 in
    let stopped : is_running (job_of it.1) ≡ false = sym (ap first_runs whole) ∙ ended in
    let goes : without_first has_ended (jobs_of entries) ≡ jobs_of it.0 = ap (without_first has_ended) whole ∙ rw stopped refl in
    let sum : length (it.0 ++ it.1 ∷ []) ≡ length it.0 + 1 = length-append it.0 (it.1 ∷ []) in
    let long : length entries ≡ length (it.0 ++ it.1 ∷ []) = ap length it.2 in
    let many : 255 ≡ length it.0 = omega arith in
    let left : take 255 entries ≡ it.0 = ap (take 255) it.2 ∙ ap (λ n. take n (it.0 ++ it.1 ∷ [])) many ∙ take-append_seam it.0 (it.1 ∷ []) in
    let count = length-jobs entries in
    let is-full : (length (jobs_of entries) == kept_operations) ≡ true = grind (arith, nat_tests) in
    let room : with_room (jobs_of entries) ≡ jobs_of it.0 = ap (λ t. if t then without_first has_ended (jobs_of entries) else jobs_of entries) is-full ∙ goes in
    rw (left, all, room) refl

pub put-over : (eq : Key → Key → Bool) (cache : LruCache Key Work) (job : Job) → IsOwn job.key (eq job.key) → KeysApart (jobs_of cache.entries) → is_busy job.key (jobs_of cache.entries) ≡ false
    → cache.cap ≡ kept_operations → length cache.entries ≤ cache.cap → (length cache.entries ≡ kept_operations → first_runs (jobs_of cache.entries) ≡ false)
    → jobs_of (put_entries eq cache job.key job.work) ≡ keep (jobs_of cache.entries) job
put-over eq cache job is a idle most fits ended = go (length cache.entries == kept_operations) refl (lookup_entry (eq job.key) cache.entries) refl
  where
    count : length (jobs_of cache.entries) ≡ length cache.entries
    count = length-jobs cache.entries

    go : (t : Bool) → (length cache.entries == kept_operations) ≡ t → (o : Option (Key × Work)) → lookup_entry (eq job.key) cache.entries ≡ o
        → jobs_of (put_entries eq cache job.key job.work) ≡ keep (jobs_of cache.entries) job
    go false e o h =
        let low : length cache.entries < 256 = grind (arith, nat_tests) in
        put eq cache job is a idle (omega arith) ∙ with-one-more (jobs_of cache.entries) job (omega (arith, count))
    go true e (Some entry) h =
        let again = put-again (eq job.key) cache.entries job entry is a idle h in
        let less = fewer (eq job.key) cache.entries job.key entry is a idle h in
        let long : length (filter (is_other job.key) (jobs_of cache.entries) ++ job ∷ []) ≡ length (filter (is_other job.key) (jobs_of cache.entries)) + 1 = length-append (filter (is_other job.key) (jobs_of cache.entries)) (job ∷ []) in
        rw h (again ∙ kept-less (jobs_of cache.entries) job (omega arith))
    go true e None h =
        let full : length cache.entries ≡ 256 = grind (arith, nat_tests) in
        rw (h, most) (over cache.entries job (fresh (eq job.key) cache.entries job.key is a idle h) full (ended full))
