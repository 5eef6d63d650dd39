-- A list of jobs that lacks some that have ended
use Rattle.std.proofs.Common.{◌≡◌, suc, ◌+◌, ◌≤◌, List, [], ◌∷◌, length, refl, ap, sym, ◌∙◌, arith, subst, true, false, Bool, inl, inr}
use Rattle.std.specs.Prelude.{◌&&◌, ◌⊎◌, ◌==◌, not, filter, cond, if◌then◌else◌}
use Rattle.std.specs.List.{list_any}
use Rattle.cm_history.specs.Bounds.{kept_operations}
use Rattle.copy_jobs.specs.declared.key.Key.{Key}
use Rattle.copy_jobs.specs.declared.job.Job.{Job}
use Rattle.copy_jobs.specs.declared.job.Work.{Work}
use Rattle.copy_jobs.specs.declared.job.Work.TheVariants.{Populated, Writing, Copying}
use Rattle.copy_jobs.specs.Jobs.{has_key, is_running, is_running_work, has_ended, running, reserved, reserved_for}
use Rattle.copy_jobs.specs.Keeping.{without_first, with_room, is_other}
use Rattle.copy_jobs.specs.Tables.{KeysApart}
use Rattle.copy_jobs.specs.inner.Tables.{AllJobs}
use Rattle.copy_jobs.proofs.Counts.{reserved-more}
use Rattle.copy_jobs.proofs.Lists.{or_first, or_later}

-- the second list is the first without some jobs that have ended
abbrev pub Trims : List Job → List Job → Type 0
Trims [] ys = ys ≡ []
Trims (x ∷ xs) ys = ((is_running x ≡ false) × Trims xs ys) ⊎ ((zs : List Job) × (ys ≡ x ∷ zs) × Trims xs zs)

trims-same : (xs : List Job) → Trims xs xs
trims-same [] = refl
trims-same (x ∷ xs) = inr (xs, refl, trims-same xs)

pub trims-filter : (key : Key) (xs : List Job) → Trims xs (filter (is_other key) xs)
trims-filter key [] = refl
trims-filter key (x ∷ xs) = go (is_running x) refl (has_key key x) (trims-filter key xs)
  where
    go : (t : Bool) → is_running x ≡ t → (k : Bool) → Trims xs (filter (is_other key) xs)
        → Trims (x ∷ xs) (cond (not (not t && k)) (x ∷ filter (is_other key) xs) (filter (is_other key) xs))
    go true e k rest = inr (filter (is_other key) xs, refl, rest)
    go false e true rest = inl (e, rest)
    go false e false rest = inr (filter (is_other key) xs, refl, rest)

pub trims-without : (xs : List Job) → Trims xs (without_first has_ended xs)
trims-without [] = refl
trims-without (x ∷ xs) = go (is_running x) refl (trims-without xs)
  where
    go : (t : Bool) → is_running x ≡ t → Trims xs (without_first has_ended xs)
        → Trims (x ∷ xs) (if not t then xs else x ∷ without_first has_ended xs)
    go true e rest = inr (without_first has_ended xs, refl, rest)
    go false e rest = inl (e, trims-same xs)

pub trims-room : (xs : List Job) → Trims xs (with_room xs)
trims-room xs = go (length xs == kept_operations)
  where
    go : (t : Bool) → Trims xs (if t then without_first has_ended xs else xs)
    go true = trims-without xs
    go false = trims-same xs

-- ---- what such a list has in common with the other

pub ended-free : (work : Work) → is_running_work work ≡ false → reserved_for work ≡ 0
ended-free (Populated serial blocks) e = refl
ended-free (Writing write) e = rw e refl
ended-free (Copying result) e = rw e refl

pub trims-running : (xs ys : List Job) → Trims xs ys → running ys ≡ running xs
trims-running [] ys t = rw t refl
trims-running (x ∷ xs) ys (inl t) = let e : is_running x ≡ false = t.0 in rw (e, trims-running xs ys t.1) refl
trims-running (x ∷ xs) ys (inr t) = ap running t.1 ∙ ap (λ zs. cond (is_running x) (x ∷ zs) zs) (trims-running xs t.0 t.2)

pub trims-reserved : (xs ys : List Job) → Trims xs ys → reserved ys ≡ reserved xs
trims-reserved [] ys t = rw t refl
trims-reserved (x ∷ xs) ys (inl t) =
    let e : reserved_for x.work ≡ 0 = ended-free x.work t.0 in
    let same : reserved ys ≡ reserved xs = trims-reserved xs ys t.1 in
    let split = reserved-more x xs in
    omega arith
trims-reserved (x ∷ xs) ys (inr t) =
    let same : reserved t.0 ≡ reserved xs = trims-reserved xs t.0 t.2 in
    let was = reserved-more x xs in
    let now : reserved ys ≡ reserved_for x.work + reserved t.0 = ap reserved t.1 ∙ reserved-more x t.0 in
    omega arith

pub trims-length : (xs ys : List Job) → Trims xs ys → length ys ≤ length xs
trims-length [] ys t = rw t (omega arith)
trims-length (x ∷ xs) ys (inl t) = let few = trims-length xs ys t.1 in omega arith
trims-length (x ∷ xs) ys (inr t) = let few = trims-length xs t.0 t.2 in let same : length ys ≡ suc (length t.0) = ap length t.1 in omega arith

pub trims-any : (p : Job → Bool) (xs ys : List Job) → Trims xs ys → list_any p xs ≡ false → list_any p ys ≡ false
trims-any p [] ys t e = rw t refl
trims-any p (x ∷ xs) ys (inl t) e = trims-any p xs ys t.1 (or_later (p x) (list_any p xs) e)
trims-any p (x ∷ xs) ys (inr t) e =
    let here : p x ≡ false = or_first (p x) (list_any p xs) e in
    let later : list_any p t.0 ≡ false = trims-any p xs t.0 t.2 (or_later (p x) (list_any p xs) e) in
    ap (list_any p) t.1 ∙ rw (here, later) refl

pub trims-apart : (xs ys : List Job) → Trims xs ys → KeysApart xs → KeysApart ys
trims-apart [] ys t a = subst KeysApart (sym t) tt
trims-apart (x ∷ xs) ys (inl t) a = trims-apart xs ys t.1 a.1
trims-apart (x ∷ xs) ys (inr t) a = subst KeysApart (sym t.1) (trims-any (has_key x.key) xs t.0 t.2 a.0, trims-apart xs t.0 t.2 a.1)

pub trims-jobs : (xs ys : List Job) → Trims xs ys → AllJobs xs → AllJobs ys
trims-jobs [] ys t a = subst AllJobs (sym t) tt
trims-jobs (x ∷ xs) ys (inl t) a = trims-jobs xs ys t.1 a.1
trims-jobs (x ∷ xs) ys (inr t) a = subst AllJobs (sym t.1) (a.0, trims-jobs xs t.0 t.2 a.1)
