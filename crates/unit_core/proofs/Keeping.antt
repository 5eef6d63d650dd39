-- The jobs after one more deed
use Rattle.std.proofs.Common.{◌≡◌, ℕ, List, [], ◌∷◌, ◌++◌, length, refl, ap, sym, ◌∙◌, subst, arith, true, false, Bool, inl, inr}
use Rattle.std.proofs.lemmas.List.{length-map}
use Rattle.std.specs.Option.{option_map}
use Rattle.std.specs.Prelude.{Some, None, ◌⊎◌, ◌==◌, ◌&&◌, not, map, filter, find, ⊤, if◌then◌else◌}
use Rattle.std.proofs.lemmas.Bool.Decides.{nat_tests}
use Rattle.cm_base.specs.Configuration.{Configuration}
use Rattle.cm_history.specs.declared.act.Act.{Act}
use Rattle.cm_history.specs.declared.act.Actor.{Actor}
use Rattle.cm_history.specs.Bounds.{kept_operations}
use Rattle.cm_history.specs.Deeds.{Deed}
use Rattle.cm_history.specs.Operations.{Operation, serves, form_of, id_of, has_key, operation_after, made_operation, makes_operation, would_serve, running, is_running, fits, kept, keep, has_ended, same_key, with_room, without_first_ended}
use Rattle.cm_history.specs.Answers.{deed}
use Rattle.cm_history.proofs.PublicLaws.{In, Each, Each-in, Each-by, In-filter, find-in, find-some, filter-passes, IsPast, running_kept, kept_in, served_none, KeysApart, keys-apart, one-key, same-record, find-map, filter-map, filter-same, map-append, map-map, map-same, served-or-not, and_second, same_actor-self as same-own, same_form-self as form-own}
use Rattle.copy_jobs.specs.declared.key.Key.{Key}
use Rattle.copy_jobs.specs.declared.job.Job.{Job}
use Rattle.copy_jobs.specs.Jobs as jobs
use Rattle.copy_jobs.specs.Keeping as keeping
use Rattle.copy_jobs.specs.Changes.{change}
use Rattle.unit_core.specs.inner.Tables.{job_of, jobs_of}
use Rattle.unit_core.proofs.Jobs.{IsNexus, IsOwn, own-nexus, job-runs, job-key}

-- ---- a deed that makes an operation

without-first : (os : List Operation) → keeping.without_first jobs.has_ended (map job_of os) ≡ map job_of (without_first_ended os)
without-first [] = refl
without-first (o ∷ os) =
    ap (λ t. if not t then map job_of os else job_of o ∷ keeping.without_first jobs.has_ended (map job_of os)) (job-runs o)
    ∙ go (is_running o) (without-first os)
  where
    go : (t : Bool) → keeping.without_first jobs.has_ended (map job_of os) ≡ map job_of (without_first_ended os)
        → (if not t then map job_of os else job_of o ∷ keeping.without_first jobs.has_ended (map job_of os)) ≡ map job_of (if not t then os else o ∷ without_first_ended os)
    go true ih = ap (λ l. job_of o ∷ l) ih
    go false ih = refl

with-room : (os : List Operation) → keeping.with_room (map job_of os) ≡ map job_of (with_room os)
with-room os =
    ap (λ n. if n == kept_operations then keeping.without_first jobs.has_ended (map job_of os) else map job_of os) (length-map os job_of)
    ∙ go (length os == kept_operations)
  where
    go : (t : Bool) → (if t then keeping.without_first jobs.has_ended (map job_of os) else map job_of os) ≡ map job_of (if t then without_first_ended os else os)
    go true = without-first os
    go false = refl

other-is : (o r : Operation) → IsNexus o.made.entry.actor → IsNexus r.made.entry.actor
    → keeping.is_other (job_of o).key (job_of r) ≡ not (has_ended r && same_key o r)
other-is o r mine its =
    ap (λ t. not (not t && jobs.has_key (job_of o).key (job_of r))) (job-runs r)
    ∙ ap (λ t. not (not (is_running r) && t)) (job-key o.made.entry.actor (form_of o.made.entry.act) (id_of o.made.entry.act) r mine its)

pub keeps-is : (os : List Operation) (o : Operation) → IsNexus o.made.entry.actor → Each (λ (r : Operation). IsNexus r.made.entry.actor) os
    → map job_of (keep os o) ≡ keeping.keep (map job_of os) (job_of o)
keeps-is os o mine theirs =
    let others : filter (keeping.is_other (job_of o).key) (map job_of os) ≡ map job_of (filter (λ r. not (has_ended r && same_key o r)) os) =
    filter-map job_of (keeping.is_other (job_of o).key) os
    ∙ ap (map job_of) (filter-same (λ r. keeping.is_other (job_of o).key (job_of r)) (λ r. not (has_ended r && same_key o r)) os
    (λ r i. other-is o r mine (Each-in (λ (x : Operation). IsNexus x.made.entry.actor) os r theirs i))) in
    map-append job_of (with_room (filter (λ r. not (has_ended r && same_key o r)) os)) (o ∷ [])
    ∙ ap (λ l. l ++ job_of o ∷ []) (sym (with-room (filter (λ r. not (has_ended r && same_key o r)) os)) ∙ ap keeping.with_room (sym others))

pub made-jobs : (config : Configuration) (unit : ℕ) (past : List Deed) (d : Deed) → Each (IsOwn config unit) (kept past) → IsNexus d.entry.actor → makes_operation d ≡ true
    → jobs_of (d ∷ past) ≡ keeping.keep (jobs_of past) (job_of (made_operation d))
made-jobs config unit past d own mine makes =
    ap (λ t. map job_of (if t then keep (kept past) (made_operation d) else map (operation_after d) (kept past))) makes
    ∙ keeps-is (kept past) (made_operation d) mine (Each-by _ (kept past) (λ o i. own-nexus config unit o (Each-in (IsOwn config unit) (kept past) o own i)))

-- ---- a deed that serves none and makes none

pub same-jobs : (past : List Deed) (d : Deed) → makes_operation d ≡ false → d.served ≡ None → jobs_of (d ∷ past) ≡ jobs_of past
same-jobs past d makes served =
    ap (λ t. map job_of (if t then keep (kept past) (made_operation d) else map (operation_after d) (kept past))) makes
    ∙ ap (map job_of) (served_none d (kept past) served)

-- ---- a deed that serves an operation

-- where the test holds of one element at most
abbrev OnlyOne : (Operation → Bool) → List Operation → Type 0
OnlyOne p [] = ⊤
OnlyOne p (o ∷ os) = (p o ≡ true → Each (λ (other : Operation). p other ≡ false) os) × OnlyOne p os

change-map : (p : Job → Bool) (g : Job → Job) (h : Operation → Operation) (os : List Operation) → OnlyOne (λ o. p (job_of o)) os
    → ((o : Operation) → In o os → p (job_of o) ≡ true → job_of (h o) ≡ g (job_of o))
    → ((o : Operation) → In o os → p (job_of o) ≡ false → job_of (h o) ≡ job_of o)
    → map job_of (map h os) ≡ change p g (map job_of os)
change-map p g h [] only on off = refl
change-map p g h (o ∷ os) only on off = go (p (job_of o)) refl (change-map p g h os only.1 (λ x i. on x (inr i)) (λ x i. off x (inr i)))
  where
    rest : Each (λ (other : Operation). p (job_of other) ≡ false) os → map job_of (map h os) ≡ map job_of os
    rest none = map-map h job_of os ∙ map-same (λ x. job_of (h x)) job_of os (λ x i. off x (inr i) (Each-in (λ (other : Operation). p (job_of other) ≡ false) os x none i))

    go : (t : Bool) → p (job_of o) ≡ t → map job_of (map h os) ≡ change p g (map job_of os)
        → job_of (h o) ∷ map job_of (map h os) ≡ (if t then g (job_of o) ∷ map job_of os else job_of o ∷ change p g (map job_of os))
    go true e ih = ap (λ x. x ∷ map job_of (map h os)) (on o (inl refl) e) ∙ ap (λ l. g (job_of o) ∷ l) (rest (only.0 e))
    go false e ih = ap (λ x. x ∷ map job_of (map h os)) (off o (inl refl) e) ∙ ap (λ l. job_of o ∷ l) ih

-- the key of an operation
abbrev pub own_key : Operation → Key
own_key o = (job_of o).key

abbrev Nexuses : List Operation → Type 0
Nexuses os = Each (λ (x : Operation). IsNexus x.made.entry.actor) os

-- a test of key and running holds of one record at most
only-one : (o : Operation) (os : List Operation) → IsNexus o.made.entry.actor → Nexuses os → KeysApart os → OnlyOne (λ x. jobs.runs_as (own_key o) (job_of x)) os
only-one o [] mine theirs keys = tt
only-one o (x ∷ os) mine theirs keys = (
  λ e. Each-by _ os (λ y i. differs e y i (jobs.runs_as (own_key o) (job_of y)) refl),
  only-one o os mine theirs.1 keys.1,
)
  where
    has : (y : Operation) → IsNexus y.made.entry.actor → jobs.runs_as (own_key o) (job_of y) ≡ true → same_key o y ≡ true
    has y its e = sym (job-key o.made.entry.actor (form_of o.made.entry.act) (id_of o.made.entry.act) y mine its) ∙ and_second (jobs.is_running (job_of y)) (jobs.has_key (own_key o) (job_of y)) e

    differs : jobs.runs_as (own_key o) (job_of x) ≡ true → (y : Operation) → In y os → (t : Bool) → jobs.runs_as (own_key o) (job_of y) ≡ t → t ≡ false
    differs e y i false f = refl
    differs e y i true f =
        let off : same_key y x ≡ false = Each-in (λ (z : Operation). same_key z x ≡ false) os y keys.0 i in
        let on : same_key y x ≡ true = one-key o.made.entry.actor (form_of o.made.entry.act) (id_of o.made.entry.act) y x (has y (Each-in (λ (z : Operation). IsNexus z.made.entry.actor) os y theirs.1 i) f) (has x theirs.0 e) in
        let no = sym on ∙ off in
        cc

some-is : (a b : Operation) → Some a ≡ Some b → a ≡ b
some-is a b e = cc

serves-own : (d : Deed) (o : Operation) → d.served ≡ Some o.made.place → operation_after d o ≡ record o { servers = d ∷ o.servers }
serves-own d o e =
    let on : (o.made.place == o.made.place) ≡ true = grind (arith, nat_tests) in
    ap (λ s. if serves s o then record o { servers = d ∷ o.servers } else o) e
    ∙ ap (λ t. if t then record o { servers = d ∷ o.servers } else o) on

has-own : (o : Operation) → IsNexus o.made.entry.actor → has_key o.made.entry.actor (form_of o.made.entry.act) (id_of o.made.entry.act) o ≡ true
has-own o its =
    let id : (id_of o.made.entry.act == id_of o.made.entry.act) ≡ true = grind (arith, nat_tests) in
    rw (same-own o.made.entry.actor, form-own (form_of o.made.entry.act), id) refl

-- a running record is the one that runs as its key
own-is : (config : Configuration) (unit : ℕ) (past : List Deed) (o x : Operation) → IsPast config unit past → Each (IsOwn config unit) (kept past) → In o (kept past) → In x (kept past)
    → jobs.runs_as (own_key o) (job_of x) ≡ true → x ≡ o
own-is config unit past o x is own there i e =
    let mine = own-nexus config unit o (Each-in (IsOwn config unit) (kept past) o own there) in
    let its = own-nexus config unit x (Each-in (IsOwn config unit) (kept past) x own i) in
    same-record o.made.entry.actor (form_of o.made.entry.act) (id_of o.made.entry.act) (kept past) x o (keys-apart config unit past is) i there
    (sym (job-key o.made.entry.actor (form_of o.made.entry.act) (id_of o.made.entry.act) x mine its) ∙ and_second (jobs.is_running (job_of x)) (jobs.has_key (own_key o) (job_of x)) e)
    (has-own o mine)

own-runs : (o : Operation) → IsNexus o.made.entry.actor → is_running o ≡ true → jobs.runs_as (own_key o) (job_of o) ≡ true
own-runs o mine runs =
    ap (λ t. t && jobs.has_key (own_key o) (job_of o)) (job-runs o ∙ runs)
    ∙ job-key o.made.entry.actor (form_of o.made.entry.act) (id_of o.made.entry.act) o mine mine ∙ has-own o mine

-- and it is found by its key
pub found-own : (config : Configuration) (unit : ℕ) (past : List Deed) (o : Operation) → IsPast config unit past → Each (IsOwn config unit) (kept past) → In o (kept past) → is_running o ≡ true
    → find (jobs.runs_as (own_key o)) (jobs_of past) ≡ Some (job_of o)
found-own config unit past o is own there runs =
    let mine = own-nexus config unit o (Each-in (IsOwn config unit) (kept past) o own there) in
    let f = find-some (λ x. jobs.runs_as (own_key o) (job_of x)) (kept past) o there (own-runs o mine runs) in
    let same : f.item ≡ o = own-is config unit past o f.item is own there f.there f.passes in
    find-map job_of (jobs.runs_as (own_key o)) (kept past) ∙ ap (option_map job_of) (f.is ∙ ap Some same)

-- what is served is kept, and runs
pub served-there : (config : Configuration) (unit : ℕ) (past : List Deed) (actor : Actor) (act : Act) (o : Operation) → IsPast config unit past → would_serve past actor act ≡ Some o → In o (kept past)
served-there config unit past actor act o is found =
    In-filter is_running (kept past) o (subst (In o) (running_kept config unit past is) (find-in (fits actor act) (running past) o found))

pub served-runs : (config : Configuration) (unit : ℕ) (past : List Deed) (actor : Actor) (act : Act) (o : Operation) → IsPast config unit past → would_serve past actor act ≡ Some o → is_running o ≡ true
served-runs config unit past actor act o is found =
    filter-passes is_running (kept past) o (subst (In o) (running_kept config unit past is) (find-in (fits actor act) (running past) o found))

-- what a deed that serves does to the jobs: the one of the key becomes that of the operation with its new server
pub serving-jobs : (config : Configuration) (unit : ℕ) (past : List Deed) (d : Deed) (o : Operation) (g : Job → Job) → IsPast config unit past → d ≡ deed config unit past d.entry
    → Each (IsOwn config unit) (kept past) → makes_operation d ≡ false → would_serve past d.entry.actor d.entry.act ≡ Some o
    → job_of (record o { servers = d ∷ o.servers }) ≡ g (job_of o)
    → jobs_of (d ∷ past) ≡ change (jobs.runs_as (own_key o)) g (jobs_of past)
serving-jobs config unit past d o g is made own makes found becomes =
    ap (λ t. map job_of (if t then keep (kept past) (made_operation d) else map (operation_after d) (kept past))) makes
    ∙ change-map (jobs.runs_as (own_key o)) g (operation_after d) (kept past)
    (only-one o (kept past) (nexus o there) (Each-by _ (kept past) nexus) (keys-apart config unit past is)) on off
  where
    nexus : (x : Operation) → In x (kept past) → IsNexus x.made.entry.actor
    nexus x i = own-nexus config unit x (Each-in (IsOwn config unit) (kept past) x own i)

    there : In o (kept past)
    there = served-there config unit past d.entry.actor d.entry.act o is found

    runs : is_running o ≡ true
    runs = served-runs config unit past d.entry.actor d.entry.act o is found

    served : (x : Operation) → In x (kept past) → (operation_after d x ≡ x) ⊎ ((would_serve past d.entry.actor d.entry.act ≡ Some x) × (operation_after d x ≡ record x { servers = d ∷ x.servers }))
    served x i = served-or-not config unit past d x is made (kept_in config unit past x is i)

    place : d.served ≡ Some o.made.place
    place = ap (λ (x : Deed). x.served) made ∙ ap (option_map (λ (x : Operation). x.made.place)) found

    on : (x : Operation) → In x (kept past) → jobs.runs_as (own_key o) (job_of x) ≡ true → job_of (operation_after d x) ≡ g (job_of x)
    on x i e =
        let same = own-is config unit past o x is own there i e in
        let after : operation_after d o ≡ record o { servers = d ∷ o.servers } = serves-own d o place in
        ap (λ y. job_of (operation_after d y)) same ∙ ap job_of after ∙ becomes ∙ ap (λ y. g (job_of y)) (sym same)

    off : (x : Operation) → In x (kept past) → jobs.runs_as (own_key o) (job_of x) ≡ false → job_of (operation_after d x) ≡ job_of x
    off x i e = go (served x i)
      where
        go : (operation_after d x ≡ x) ⊎ ((would_serve past d.entry.actor d.entry.act ≡ Some x) × (operation_after d x ≡ record x { servers = d ∷ x.servers })) → job_of (operation_after d x) ≡ job_of x
        go (inl same) = ap job_of same
        go (inr (is_it, more)) =
            let same : o ≡ x = some-is o x (sym found ∙ is_it) in
            let no = sym (own-runs o (nexus o there) runs) ∙ ap (λ y. jobs.runs_as (own_key o) (job_of y)) same ∙ e in
            cc

pub serves-none : (config : Configuration) (unit : ℕ) (past : List Deed) (d : Deed) → d ≡ deed config unit past d.entry → would_serve past d.entry.actor d.entry.act ≡ None → d.served ≡ None
serves-none config unit past d made e = ap (λ (x : Deed). x.served) made ∙ ap (option_map (λ (x : Operation). x.made.place)) e
