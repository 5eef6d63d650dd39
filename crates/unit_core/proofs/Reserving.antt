-- The entries that are kept free for operations, and those for jobs
use Rattle.std.proofs.Common.{◌≡◌, ℕ, zero, suc, ◌+◌, ◌-◌, ◌*◌, ◌≤◌, List, [], ◌∷◌, ◌++◌, length, refl, ap, sym, ◌∙◌, arith, true, false, Bool, inl, inr}
use Rattle.std.specs.Prelude.{Some, ◌==◌, ◌||◌, filter, find, cond, sum_by, if◌then◌else◌}
use Rattle.std.proofs.lemmas.List.Sums.{sum_by-append, sum_by-cons}
use Rattle.cm_base.specs.Configuration.{Configuration}
use Rattle.cm_base.specs.declared.config.UnitConfig.{UnitConfig}
use Rattle.lba_ranges.specs.declared.ranges.Range.{Range}
use Rattle.lba_ranges.specs.HeldBlocks.{HeldBlocks}
use Rattle.cm_history.specs.declared.act.Act.{Act}
use Rattle.cm_history.specs.Bounds.{piece_blocks, kept_operations}
use Rattle.cm_history.specs.Deeds.{Deed}
use Rattle.cm_history.specs.Limits.{within_limits}
use Rattle.cm_history.specs.Operations.{Operation, OfToken, form_of, operations, is_making, is_running, is_running_as, is_running_state, is_running_copy, is_foreground, is_background, kept, written, list_of, state, state_of, result_of, result_or}
use Rattle.cm_history.specs.Room.{pieces, kept_free, still_needed}
use Rattle.cm_history.proofs.PublicLaws.{Each-in, IsPast, IsBegun, begun, running_kept, kept_in, IsPaced, all-paced, few-written, Serves, token-runs, paced-after, start-length, sum-filter, sum-map, sum-same, whole-pieces}
use Rattle.copy_jobs.specs.declared.job.Job.{Job}
use Rattle.copy_jobs.specs.Jobs as jobs
use Rattle.copy_jobs.specs.Keeping as keeping
use Rattle.copy_jobs.specs.Changes.{change}
use Rattle.unit_core.specs.inner.Tables.{work_of, job_of, jobs_of}
use Rattle.cm_history.specs.Asked.{IsAsked}
use Rattle.unit_core.proofs.Jobs.{IsOwn}
use Rattle.unit_core.proofs.Bools.{off}

-- ---- of one operation

abbrev pub needs : Operation → ℕ
needs o = still_needed (length o.servers) o.made.entry.act

nothing : (t : Bool) → zero ≡ (if t then zero else zero)
nothing true = refl
nothing false = refl

reserves-work : (o : Operation) → IsPaced o → (act : Act) → o.made.entry.act ≡ act → jobs.reserved_for (work_of o act) ≡ (if is_running_as o (form_of act) then still_needed (length o.servers) act else 0)
reserves-work o paced (Act.Start id background ranges rod) is = go (is_running_state (state o)) refl
  where
    go : (t : Bool) → is_running_state (state o) ≡ t
        → (if t then pieces (length rod.items) + 1 - pieces (length (written o)) else 0) ≡ (if t then pieces (length rod.items) + 1 - length o.servers else 0)
    go true e = ap (λ n. pieces (length rod.items) + 1 - n) (ap pieces (paced e) ∙ whole-pieces (length o.servers))
    go false e = refl
reserves-work o paced (Act.Open id) is = refl
reserves-work o paced (Act.Populate id timeout ranges) is = nothing (is_running_as o OfToken)
reserves-work o paced _ is = nothing (is_running_as o OfToken)

pub reserves-job : (o : Operation) → IsPaced o → jobs.reserved_for (job_of o).work ≡ (if is_running o then needs o else 0)
reserves-job o paced = reserves-work o paced o.made.entry.act refl

-- as many entries are kept free for the jobs as for the operations
pub reserved-is : (config : Configuration) (unit : ℕ) (past : List Deed) → IsPast config unit past → jobs.reserved (jobs_of past) ≡ kept_free past
reserved-is config unit past is =
    sum-map job_of (λ (j : Job). jobs.reserved_for j.work) (kept past)
    ∙ sum-same (λ o. jobs.reserved_for (job_of o).work) (λ (o : Operation). if is_running o then needs o else 0) (kept past)
    (λ o i. reserves-job o (Each-in IsPaced (operations past) o (all-paced config unit past is) (kept_in config unit past o is i)))
    ∙ sym (sum-filter needs is_running (kept past))
    ∙ sym (ap (sum_by needs) (running_kept config unit past is))

-- ---- a new job

abbrev of_job : Job → ℕ
of_job j = jobs.reserved_for j.work

fewer-filter : (p : Job → Bool) (js : List Job) → sum_by of_job (filter p js) ≤ sum_by of_job js
fewer-filter p [] = omega arith
fewer-filter p (j ∷ js) = rw (sum_by-cons of_job j js) (go (p j) (fewer-filter p js))
  where
    go : (t : Bool) → sum_by of_job (filter p js) ≤ sum_by of_job js → sum_by of_job (cond t (j ∷ filter p js) (filter p js)) ≤ of_job j + sum_by of_job js
    go true ih = rw (sum_by-cons of_job j (filter p js)) (omega (arith, ih))
    go false ih = omega (arith, ih)

fewer-without : (p : Job → Bool) (js : List Job) → sum_by of_job (keeping.without_first p js) ≤ sum_by of_job js
fewer-without p [] = omega arith
fewer-without p (j ∷ js) = rw (sum_by-cons of_job j js) (go (p j) (fewer-without p js))
  where
    go : (t : Bool) → sum_by of_job (keeping.without_first p js) ≤ sum_by of_job js
        → sum_by of_job (if t then js else j ∷ keeping.without_first p js) ≤ of_job j + sum_by of_job js
    go true ih = omega arith
    go false ih = rw (sum_by-cons of_job j (keeping.without_first p js)) (omega (arith, ih))

fewer-room : (js : List Job) → sum_by of_job (keeping.with_room js) ≤ sum_by of_job js
fewer-room js = go (length js == kept_operations)
  where
    go : (t : Bool) → sum_by of_job (if t then keeping.without_first jobs.has_ended js else js) ≤ sum_by of_job js
    go true = fewer-without jobs.has_ended js
    go false = omega arith

pub keep-reserves : (js : List Job) (j : Job) → jobs.reserved (keeping.keep js j) ≤ jobs.reserved js + of_job j
keep-reserves js j =
    let others = filter (keeping.is_other j.key) js in
    let a = fewer-filter (keeping.is_other j.key) js in
    let b = fewer-room others in
    let last : sum_by of_job (j ∷ []) ≡ of_job j + 0 = sum_by-cons of_job j [] in
    let all : sum_by of_job (keeping.with_room others ++ j ∷ []) ≡ sum_by of_job (keeping.with_room others) + sum_by of_job (j ∷ []) = sum_by-append of_job (keeping.with_room others) (j ∷ []) in
    omega (arith, a, b, last, all)

-- ---- a served operation

pub change-reserves : (p : Job → Bool) (g : Job → Job) (js : List Job) (j : Job) → find p js ≡ Some j → of_job (g j) + 1 ≤ of_job j → jobs.reserved (change p g js) + 1 ≤ jobs.reserved js
change-reserves p g [] j found less = cc
change-reserves p g (x ∷ js) j found less = rw (sum_by-cons of_job x js) (go (p x) found (λ f. change-reserves p g js j f less))
  where
    go : (t : Bool) → cond t (Some x) (find p js) ≡ Some j → (find p js ≡ Some j → sum_by of_job (change p g js) + 1 ≤ sum_by of_job js)
        → sum_by of_job (if t then g x ∷ js else x ∷ change p g js) + 1 ≤ of_job x + sum_by of_job js
    go true f ih = let same : x ≡ j = cc in let fewer : of_job (g x) + 1 ≤ of_job x = rw same less in rw (sum_by-cons of_job (g x) js) (omega (arith, fewer))
    go false f ih = rw (sum_by-cons of_job x (change p g js)) (omega (arith, ih f))

few-pieces : (n blocks : ℕ) → piece_blocks * n ≤ blocks → n ≤ pieces blocks
few-pieces n blocks few = omega (arith, few)

-- an operation that was served needs an entry less
pub serving-reserves : (config : Configuration) (unit : ℕ) (limits : UnitConfig) (past : List Deed) (d : Deed) (o : Operation) → IsAsked config unit d → Serves limits past o d.answer d.wrote d.entry.act
    → IsOwn config unit o → is_running o ≡ true → IsBegun o → IsPaced o → of_job (job_of (record o { servers = d ∷ o.servers })) + 1 ≤ of_job (job_of o)
serving-reserves config unit limits past d o asked serves own runs begun paced = go o.made.entry.act refl
  where
    o' : Operation
    o' = record o { servers = d ∷ o.servers }

    after : of_job (job_of o') ≡ (if is_running o' then needs o' else 0)
    after = reserves-job o' (paced-after limits past d o serves runs begun paced)

    before : of_job (job_of o) ≡ needs o
    before = reserves-job o paced ∙ ap (λ t. if t then needs o else 0) runs

    started : (id : ℕ) (background : Bool) (ranges : List Range) (rod : HeldBlocks) → o.made.entry.act ≡ Act.Start id background ranges rod → of_job (job_of o') + 1 ≤ of_job (job_of o)
    started id background ranges rod is = fall (is_running o') after
      where
        within : within_limits config unit (Act.Start id background ranges rod) ≡ true
        within = sym (ap (within_limits config unit) is) ∙ own.asked.limits

        blocks : length (list_of o.made.entry.act) ≡ length rod.items
        blocks = ap (λ a. length (list_of a)) is ∙ start-length config unit id background ranges rod within

        few : length o.servers ≤ pieces (length rod.items)
        few =
            let w : length (written o) ≡ piece_blocks * length o.servers = paced (token-runs o (ap form_of is) runs) in
            let all = few-written o begun in
            few-pieces (length o.servers) (length rod.items) (omega (arith, w, all, blocks))

        needs-now : needs o ≡ pieces (length rod.items) + 1 - length o.servers
        needs-now = ap (still_needed (length o.servers)) is

        needs-then : needs o' ≡ pieces (length rod.items) + 1 - suc (length o.servers)
        needs-then = ap (still_needed (suc (length o.servers))) is

        fall : (t : Bool) → of_job (job_of o') ≡ (if t then needs o' else 0) → of_job (job_of o') + 1 ≤ of_job (job_of o)
        fall true e = omega (arith, e, before, needs-now, needs-then, few)
        fall false e = omega (arith, e, before, needs-now, few)

    opened : (id : ℕ) → o.made.entry.act ≡ Act.Open id → Serves limits past o d.answer d.wrote d.entry.act → of_job (job_of o') + 1 ≤ of_job (job_of o)
    opened id is (inl moves) = let no : (is_foreground (Act.Open id) || is_background (Act.Open id)) ≡ true = sym (ap (λ a. is_foreground a || is_background a) is) ∙ moves.start in cc
    opened id is (inr (inl stops)) = let no : (is_foreground (Act.Open id) || is_background (Act.Open id)) ≡ true = sym (ap (λ a. is_foreground a || is_background a) is) ∙ stops.start in cc
    opened id is (inr (inr (inl ends))) = let no : (is_foreground (Act.Open id) || is_background (Act.Open id)) ≡ true = sym (ap (λ a. is_foreground a || is_background a) is) ∙ ends.start in cc
    opened id is (inr (inr (inr closes))) =
        let ended : is_running_copy closes.result.state ≡ false = off (is_running_copy closes.result.state) (sym (ap (within_limits config unit) closes.act) ∙ asked.limits) in
        let form : is_running o' ≡ is_running_copy (result_or (result_of o.servers) d.entry.act).state = ap (is_running_as o') (ap form_of is) in
        let over : is_running o' ≡ false = form ∙ ap (λ a. is_running_copy (result_or (result_of o.servers) a).state) closes.act ∙ ended in
        let none : of_job (job_of o') ≡ 0 = after ∙ ap (λ t. if t then needs o' else 0) over in
        let one : needs o ≡ 1 = ap (still_needed (length o.servers)) is in
        omega (arith, none, before, one)

    go : (act : Act) → o.made.entry.act ≡ act → of_job (job_of o') + 1 ≤ of_job (job_of o)
    go (Act.Start id background ranges rod) is = started id background ranges rod is
    go (Act.Open id) is = opened id is serves
    go (Act.Populate id timeout ranges) is =
        let no : is_running o ≡ false = ap (is_running_as o) (ap form_of is) ∙ ap (λ a. is_running_state (state_of o a)) is in
        let never = sym runs ∙ no in
        cc
    go _ is = let no : is_making o.made.entry.act ≡ false = ap is_making is in let never = sym own.makes ∙ no in cc
