-- The operations of a past, and the jobs that are kept of them
use Rattle.std.proofs.Common.{◌≡◌, ℕ, List, length, refl, ap, sym, ◌∙◌, arith, true, Bool}
use Rattle.std.specs.List.{list_any}
use Rattle.std.specs.Option.{option_map}
use Rattle.std.specs.Prelude.{Option, Some, None, ◌==◌, ◌&&◌, map, filter, find, nat_le, ⊤}
use Rattle.std.proofs.lemmas.Bool.Decides.{nat_tests}
use Rattle.cm_base.specs.Configuration.{Configuration}
use Rattle.cm_history.specs.declared.act.Act.{Act}
use Rattle.cm_history.specs.declared.act.Actor.{Actor}
use Rattle.cm_history.specs.declared.act.Actor.TheVariants.{Nexus, Pump}
use Rattle.cm_history.specs.Bounds.{running_operations}
use Rattle.cm_history.specs.Deeds.{Deed, same_actor}
use Rattle.cm_history.specs.Legal.{may_ask}
use Rattle.cm_history.specs.Operations.{Operation, Form, OfToken, OfCopy, same_form, form_of, id_of, has_key, operations, is_making, would_serve, running, is_running, is_running_as, is_running_state, is_foreground, is_background, fits, kept, state_of}
use Rattle.cm_history.specs.Answers.{is_busy, is_crowded}
use Rattle.cm_history.proofs.PublicLaws.{In, Each, Each-in, Each-by, IsPast, running_kept, kept_in, find-filter, find-map, find-same, any-filter, any-map, any-same, filter-map, filter-same}
use Rattle.copy_jobs.specs.declared.key.Key.{Key}
use Rattle.copy_jobs.specs.declared.job.Job.{Job}
use Rattle.copy_jobs.specs.Keys as keys
use Rattle.copy_jobs.specs.Jobs as jobs
use Rattle.copy_jobs.specs.Pieces as next
use Rattle.unit_core.specs.Keys.{number_of, is_copy, key_of}
use Rattle.unit_core.specs.inner.Tables.{work_of, job_of, jobs_of}
use Rattle.unit_core.proofs.Operating.{IsMadeBy, all-made_by}
use Rattle.cm_history.specs.Asked.{AllAsked}
use Rattle.unit_core.proofs.Bools.{and-assoc}
use Rattle.copy_jobs.proofs.PublicLaws.{same-sym as eqb-turned}
use Rattle.std.proofs.lemmas.List.{length-map}

-- ---- a nexus makes operations

abbrev pub IsNexus : Actor → Type 0
IsNexus (Nexus n) = ⊤
IsNexus (Pump u) = ⊥

pub maker-nexus : (unit : ℕ) (actor : Actor) (act : Act) → may_ask unit actor act ≡ true → is_making act ≡ true → IsNexus actor
maker-nexus unit (Nexus n) act e m = tt
maker-nexus unit (Pump u) (Act.Populate id timeout ranges) e m = cc
maker-nexus unit (Pump u) (Act.Start id background ranges rod) e m = cc
maker-nexus unit (Pump u) (Act.Open id) e m = cc
maker-nexus unit (Pump u) _ e m = cc

-- what each kept operation is
abbrev pub IsOwn : Configuration → ℕ → Operation → Type 0
IsOwn config unit o = IsMadeBy config unit o.made

pub own-nexus : (config : Configuration) (unit : ℕ) (o : Operation) → IsOwn config unit o → IsNexus o.made.entry.actor
own-nexus config unit o own = maker-nexus unit o.made.entry.actor o.made.entry.act own.asked.asked own.makes

pub all-own : (config : Configuration) (unit : ℕ) (past : List Deed) → IsPast config unit past → AllAsked config unit past → Each (IsOwn config unit) (kept past)
all-own config unit past is asked =
    Each-by (IsOwn config unit) (kept past) (λ o i. Each-in (IsOwn config unit) (operations past) o (all-made_by config unit past is asked) (kept_in config unit past o is i))

-- ---- one operation and its job

work-runs : (o : Operation) (act : Act) → o.made.entry.act ≡ act → jobs.is_running_work (work_of o act) ≡ is_running_as o (form_of act)
work-runs o (Act.Start id background ranges rod) e = refl
work-runs o (Act.Open id) e = refl
work-runs o (Act.Populate id timeout ranges) e = sym (ap (λ a. is_running_state (state_of o a)) e)
work-runs o _ e = sym (ap (λ a. is_running_state (state_of o a)) e)

pub job-runs : (o : Operation) → jobs.is_running (job_of o) ≡ is_running o
job-runs o = work-runs o o.made.entry.act refl

kind-is : (a b : Form) → keys.same_kind (is_copy b) (is_copy a) ≡ same_form a b
kind-is OfToken OfToken = refl
kind-is OfToken OfCopy = refl
kind-is OfCopy OfToken = refl
kind-is OfCopy OfCopy = refl

number-is : (a b : Actor) → IsNexus a → IsNexus b → (number_of b == number_of a) ≡ same_actor a b
number-is (Nexus a) (Nexus b) x y = grind (arith, nat_tests)
number-is (Pump a) b x y = absurd x
number-is (Nexus a) (Pump b) x y = absurd y

-- the job has the key exactly where the operation has it
pub job-key : (actor : Actor) (form : Form) (id : ℕ) (o : Operation) → IsNexus actor → IsNexus o.made.entry.actor
    → jobs.has_key (key_of actor form id) (job_of o) ≡ has_key actor form id o
job-key actor form id o mine its =
    ap (λ t. t && keys.same_kind (is_copy form) (is_copy (form_of o.made.entry.act)) && (id == id_of o.made.entry.act)) (number-is o.made.entry.actor actor its mine)
    ∙ ap (λ t. same_actor o.made.entry.actor actor && t && (id == id_of o.made.entry.act)) (kind-is (form_of o.made.entry.act) form)
    ∙ ap (λ t. same_actor o.made.entry.actor actor && same_form (form_of o.made.entry.act) form && t) (eqb-turned id (id_of o.made.entry.act))

pub job-runs_as : (actor : Actor) (form : Form) (id : ℕ) (o : Operation) → IsNexus actor → IsNexus o.made.entry.actor
    → jobs.runs_as (key_of actor form id) (job_of o) ≡ (is_running o && has_key actor form id o)
job-runs_as actor form id o mine its =
    ap (λ t. t && jobs.has_key (key_of actor form id) (job_of o)) (job-runs o) ∙ ap (λ t. is_running o && t) (job-key actor form id o mine its)

pub work-foreground : (o : Operation) (act : Act) → next.is_foreground (work_of o act) ≡ is_foreground act
work-foreground o (Act.Start id background ranges rod) = refl
work-foreground o (Act.Open id) = refl
work-foreground o (Act.Populate id timeout ranges) = refl
work-foreground o _ = refl

pub work-background : (o : Operation) (act : Act) → next.is_background (work_of o act) ≡ is_background act
work-background o (Act.Start id background ranges rod) = refl
work-background o (Act.Open id) = refl
work-background o (Act.Populate id timeout ranges) = refl
work-background o _ = refl

-- ---- what is found among the operations, and among the jobs

-- the key of an act that serves by it
abbrev pub next_key : Actor → ℕ → Option Key
next_key actor id = Some (key_of actor OfToken id)

pub is-next-key : (actor : Actor) (id : ℕ) (o : Operation) → IsNexus actor → IsNexus o.made.entry.actor
    → next.is_next (next_key actor id) (job_of o) ≡ (is_running o && fits actor (Act.Advance id) o)
is-next-key actor id o mine its =
    ap (λ t. t && next.is_foreground (work_of o o.made.entry.act)) (job-runs_as actor OfToken id o mine its)
    ∙ ap (λ t. (is_running o && has_key actor OfToken id o) && t) (work-foreground o o.made.entry.act)
    ∙ and-assoc (is_running o) (has_key actor OfToken id o) (is_foreground o.made.entry.act)

pub is-next-pump : (actor : Actor) (o : Operation) → next.is_next None (job_of o) ≡ (is_running o && fits actor Act.Pump o)
is-next-pump actor o = ap (λ t. t && next.is_background (work_of o o.made.entry.act)) (job-runs o) ∙ ap (λ t. is_running o && t) (work-background o o.made.entry.act)

-- what an act would serve is found among the records
pub served-kept : (config : Configuration) (unit : ℕ) (past : List Deed) (actor : Actor) (act : Act) → IsPast config unit past
    → would_serve past actor act ≡ find (λ (o : Operation). is_running o && fits actor act o) (kept past)
served-kept config unit past actor act is = ap (find (fits actor act)) (running_kept config unit past is) ∙ find-filter is_running (fits actor act) (kept past)

-- the job that is found is that of the operation
pub found-job : (config : Configuration) (unit : ℕ) (past : List Deed) (actor : Actor) (act : Act) (test : Job → Bool) → IsPast config unit past
    → ((o : Operation) → In o (kept past) → test (job_of o) ≡ (is_running o && fits actor act o))
    → find test (jobs_of past) ≡ option_map job_of (would_serve past actor act)
found-job config unit past actor act test is same =
    find-map job_of test (kept past)
    ∙ ap (option_map job_of) (find-same (λ o. test (job_of o)) (λ (o : Operation). is_running o && fits actor act o) (kept past) same ∙ sym (served-kept config unit past actor act is))

-- a job of the key runs exactly where an operation does
pub busy-is : (config : Configuration) (unit : ℕ) (past : List Deed) (actor : Actor) (form : Form) (id : ℕ) → IsPast config unit past → Each (IsOwn config unit) (kept past) → IsNexus actor
    → jobs.is_busy (key_of actor form id) (jobs_of past) ≡ is_busy past actor form id
busy-is config unit past actor form id is own mine =
    any-map job_of (jobs.runs_as (key_of actor form id)) (kept past)
    ∙ any-same (λ o. jobs.runs_as (key_of actor form id) (job_of o)) (λ (o : Operation). is_running o && has_key actor form id o) (kept past)
    (λ o i. job-runs_as actor form id o mine (own-nexus config unit o (Each-in (IsOwn config unit) (kept past) o own i)))
    ∙ sym (any-filter is_running (has_key actor form id) (kept past))
    ∙ sym (ap (list_any (has_key actor form id)) (running_kept config unit past is))

-- so many jobs run as operations do
pub running-is : (config : Configuration) (unit : ℕ) (past : List Deed) → IsPast config unit past → length (jobs.running (jobs_of past)) ≡ length (running past)
running-is config unit past is =
    ap length (filter-map job_of jobs.is_running (kept past) ∙ ap (map job_of) (filter-same (λ o. jobs.is_running (job_of o)) is_running (kept past) (λ o i. job-runs o)))
    ∙ length-map (filter is_running (kept past)) job_of ∙ sym (ap length (running_kept config unit past is))

pub crowded-is : (config : Configuration) (unit : ℕ) (past : List Deed) → IsPast config unit past → jobs.is_crowded (jobs_of past) ≡ is_crowded past
crowded-is config unit past is = ap (nat_le running_operations) (running-is config unit past is)
