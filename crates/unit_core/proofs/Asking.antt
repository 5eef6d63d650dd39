-- Who asks, and whether an act serves an operation that runs
use Rattle.std.proofs.Common.{◌≡◌, ℕ, List, length, refl, ap, sym, ◌∙◌, arith, true, false, Bool}
use Rattle.std.specs.List.{list_any}
use Rattle.std.specs.Option.{option_map}
use Rattle.std.specs.Prelude.{Option, Some, None, ◌==◌, ◌&&◌, map, filter, find, is_some}
use Rattle.std.proofs.lemmas.Bool.Decides.{nat_tests}
use Rattle.std.proofs.lemmas.List.{length-map}
use Rattle.cm_base.specs.Configuration.{Configuration}
use Rattle.cm_base.specs.declared.config.UnitConfig.{UnitConfig}
use Rattle.lba_ranges.specs.HeldBlocks.{HeldBlocks}
use Rattle.cm_history.specs.declared.act.Act.{Act}
use Rattle.cm_history.specs.declared.act.Actor.{Actor}
use Rattle.cm_history.specs.declared.act.Actor.TheVariants.{Nexus, Pump}
use Rattle.cm_history.specs.declared.act.CopyEnd.{CopyEnd}
use Rattle.cm_history.specs.declared.answer.OpReport.{OpReport}
use Rattle.cm_history.specs.declared.answer.OpState.{OpState}
use Rattle.cm_history.specs.Deeds.{Deed, same_actor}
use Rattle.cm_history.specs.Legal.{may_ask}
use Rattle.cm_history.specs.Tokens.{Token, rod, is_live, is_populate}
use Rattle.cm_history.specs.Operations.{Operation, Form, OfToken, OfCopy, same_form, form_of, id_of, has_key, would_serve, is_running, is_background, fits, kept, is_making, result_of, written, state_of, count_of}
use Rattle.cm_history.specs.Answers.{report_of, serial_made}
use Rattle.cm_history.proofs.PublicLaws.{In, Each-in, same_actor-is, same_form-is, any-some, find-map, find-same, filter-map, filter-same, and_first, and_second, some-map}
use Rattle.copy_jobs.specs.declared.job.Job.{Job}
use Rattle.copy_jobs.specs.Jobs as jobs
use Rattle.copy_jobs.specs.Pieces as next
use Rattle.copy_jobs.specs.Reports as reports
use Rattle.rod_store.specs.declared.kept.Kept.{Kept}
use Rattle.rod_store.specs.Kept as store
use Rattle.unit_core.specs.Keys.{key_of}
use Rattle.unit_core.specs.inner.Tables.{work_of, job_of, jobs_of, kept_of, serial_or_none}
use Rattle.unit_core.proofs.Jobs.{IsNexus, IsOwn, own-nexus, job-key, job-runs_as, is-next-key, is-next-pump, found-job, work-background}
use Rattle.unit_core.proofs.Tokens.{live-state}
use Rattle.unit_core.proofs.Planned.{IsKnown, own-of}
use Rattle.unit_core.proofs.Bools.{and-assoc}

abbrev pub is_pump : Act → Bool
is_pump Act.Pump = true
is_pump _ = false

-- a nexus asks each act but a Pump
pub asker : (unit : ℕ) (actor : Actor) (act : Act) → may_ask unit actor act ≡ true → is_pump act ≡ false → IsNexus actor
asker unit (Nexus n) act e p = tt
asker unit (Pump u) Act.Pump e p = cc
asker unit (Pump u) _ e p = cc

-- a test that holds of the jobs of the operations that an act fits
serves-by : (config : Configuration) (unit : ℕ) (past : List Deed) (actor : Actor) (act : Act) (test : Job → Bool) → IsKnown config unit past
    → ((o : Operation) → In o (kept past) → test (job_of o) ≡ (is_running o && fits actor act o))
    → list_any test (jobs_of past) ≡ is_some (would_serve past actor act)
serves-by config unit past actor act test known same =
    sym (any-some test (jobs_of past)) ∙ ap is_some (found-job config unit past actor act test known.is same) ∙ some-map job_of (would_serve past actor act)

nexus-in : (config : Configuration) (unit : ℕ) (past : List Deed) (o : Operation) → IsKnown config unit past → In o (kept past) → IsNexus o.made.entry.actor
nexus-in config unit past o known i = own-nexus config unit o (Each-in (IsOwn config unit) (kept past) o (own-of config unit past known) i)

pub serves-advance : (config : Configuration) (unit : ℕ) (past : List Deed) (actor : Actor) (id : ℕ) → IsKnown config unit past → IsNexus actor
    → list_any (next.is_next (Some (key_of actor OfToken id))) (jobs_of past) ≡ is_some (would_serve past actor (Act.Advance id))
serves-advance config unit past actor id known mine =
    serves-by config unit past actor (Act.Advance id) (next.is_next (Some (key_of actor OfToken id))) known (λ o i. is-next-key actor id o mine (nexus-in config unit past o known i))

pub serves-pump : (config : Configuration) (unit : ℕ) (past : List Deed) (actor : Actor) → IsKnown config unit past
    → list_any (next.is_next None) (jobs_of past) ≡ is_some (would_serve past actor Act.Pump)
serves-pump config unit past actor known = serves-by config unit past actor Act.Pump (next.is_next None) known (λ o i. is-next-pump actor o)

is-behind-key : (actor : Actor) (id : ℕ) (o : Operation) → IsNexus actor → IsNexus o.made.entry.actor
    → next.runs_in_background (key_of actor OfToken id) (job_of o) ≡ (is_running o && fits actor (Act.Abort id) o)
is-behind-key actor id o mine its =
    ap (λ t. t && next.is_background (work_of o o.made.entry.act)) (job-runs_as actor OfToken id o mine its)
    ∙ ap (λ t. (is_running o && has_key actor OfToken id o) && t) (work-background o o.made.entry.act)
    ∙ and-assoc (is_running o) (has_key actor OfToken id o) (is_background o.made.entry.act)

pub serves-abort : (config : Configuration) (unit : ℕ) (past : List Deed) (actor : Actor) (id : ℕ) → IsKnown config unit past → IsNexus actor
    → list_any (next.runs_in_background (key_of actor OfToken id)) (jobs_of past) ≡ is_some (would_serve past actor (Act.Abort id))
serves-abort config unit past actor id known mine =
    serves-by config unit past actor (Act.Abort id) (next.runs_in_background (key_of actor OfToken id)) known (λ o i. is-behind-key actor id o mine (nexus-in config unit past o known i))

pub serves-close : (config : Configuration) (unit : ℕ) (past : List Deed) (actor : Actor) (id : ℕ) (result : CopyEnd) → IsKnown config unit past → IsNexus actor
    → jobs.is_busy (key_of actor OfCopy id) (jobs_of past) ≡ is_some (would_serve past actor (Act.Close id result))
serves-close config unit past actor id result known mine =
    serves-by config unit past actor (Act.Close id result) (jobs.runs_as (key_of actor OfCopy id)) known (λ o i. job-runs_as actor OfCopy id o mine (nexus-in config unit past o known i))

-- ---- the record of a key

-- the key of an operation that has it
pub key-own : (actor : Actor) (form : Form) (id : ℕ) (o : Operation) → has_key actor form id o ≡ true → (job_of o).key ≡ key_of actor form id
key-own actor form id o e =
    let t = same_actor o.made.entry.actor actor in
    let u = same_form (form_of o.made.entry.act) form in
    let v = id_of o.made.entry.act == id in
    let first : (t && u) ≡ true = and_first (t && u) v e in
    let who : o.made.entry.actor ≡ actor = same_actor-is o.made.entry.actor actor (and_first t u first) in
    let what : form_of o.made.entry.act ≡ form = same_form-is (form_of o.made.entry.act) form (and_second t u first) in
    let last : v ≡ true = and_second (t && u) v e in
    let name : id_of o.made.entry.act ≡ id = grind (arith, nat_tests) in
    ap (λ a. key_of a (form_of o.made.entry.act) (id_of o.made.entry.act)) who
    ∙ ap (λ f. key_of actor f (id_of o.made.entry.act)) what
    ∙ ap (key_of actor form) name

-- what is kept of a key among the operations, and among the jobs
pub found-key : (config : Configuration) (unit : ℕ) (past : List Deed) (actor : Actor) (form : Form) (id : ℕ) → IsKnown config unit past → IsNexus actor
    → find (jobs.has_key (key_of actor form id)) (jobs_of past) ≡ option_map job_of (find (has_key actor form id) (kept past))
found-key config unit past actor form id known mine =
    find-map job_of (jobs.has_key (key_of actor form id)) (kept past)
    ∙ ap (option_map job_of) (find-same (λ o. jobs.has_key (key_of actor form id) (job_of o)) (has_key actor form id) (kept past) (λ o i. job-key actor form id o mine (nexus-in config unit past o known i)))

-- what is told of a token operation
serial-is : (s : Option ℕ) → is_some s ≡ true → Some (serial_or_none s) ≡ s
serial-is None e = cc
serial-is (Some n) e = refl

none-is : (s : Option ℕ) → is_some s ≡ false → s ≡ None
none-is None e = refl
none-is (Some n) e = cc

-- the report of an operation that this act made
abbrev report_by : Operation → Act → Option ℕ → OpReport
report_by o act serial = record { populate = is_populate act; background = is_background act; state = state_of o act; count = count_of (written o) act; serial = serial }

work-report : (o : Operation) (act : Act) → o.made.entry.act ≡ act → form_of act ≡ OfToken → is_making act ≡ true → is_some (serial_made o.made.answer) ≡ is_populate act → reports.report_of (work_of o act) ≡ report_of o
work-report o (Act.Populate id timeout ranges) is form makes made =
    ap (report_by o (Act.Populate id timeout ranges)) (serial-is (serial_made o.made.answer) made)
    ∙ sym (ap (λ a. report_by o a (serial_made o.made.answer)) is)
work-report o (Act.Start id background ranges rod) is form makes made =
    ap (λ (s : OpState). let r : OpReport = record { populate = false; background = background; state = s; count = length (written o); serial = None } in r) (ap (state_of o) is)
    ∙ ap (report_by o (Act.Start id background ranges rod)) (sym (none-is (serial_made o.made.answer) made))
    ∙ sym (ap (λ a. report_by o a (serial_made o.made.answer)) is)
work-report o (Act.Open id) is form makes made = cc
work-report o _ is form makes made = cc

pub job-report : (config : Configuration) (unit : ℕ) (o : Operation) → IsOwn config unit o → form_of o.made.entry.act ≡ OfToken → reports.report_of (job_of o).work ≡ report_of o
job-report config unit o own form = work-report o o.made.entry.act refl form own.makes own.serial

work-result : (o : Operation) (act : Act) → form_of act ≡ OfCopy → reports.result_of (work_of o act) ≡ result_of o.servers
work-result o (Act.Open id) form = refl
work-result o (Act.Populate id timeout ranges) form = cc
work-result o (Act.Start id background ranges rod) form = cc
work-result o _ form = cc

pub job-result : (o : Operation) → form_of o.made.entry.act ≡ OfCopy → reports.result_of (job_of o).work ≡ result_of o.servers
job-result o form = work-result o o.made.entry.act form

-- how many tokens are live
pub live-count : (unit : UnitConfig) (ts : List Token) → length (store.live (map (kept_of unit) ts)) ≡ length (filter (λ (t : Token). is_live t.fate) ts)
live-count unit ts =
    ap length (filter-map (kept_of unit) (λ (k : Kept HeldBlocks). store.is_live k.state) ts
    ∙ ap (map (kept_of unit)) (filter-same (λ t. store.is_live (kept_of unit t).state) (λ (t : Token). is_live t.fate) ts (λ t i. live-state (rod unit t) t t.fate)))
    ∙ length-map (filter (λ (t : Token). is_live t.fate) ts) (kept_of unit)
