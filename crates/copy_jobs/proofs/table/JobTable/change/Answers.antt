use Rattle.std.proofs.Common.{◌≡◌, ℕ, ◌+◌, ◌≤◌, List, length, refl, ap, sym, ◌∙◌, arith, Bool, true, false}
use Rattle.std.specs.Prelude.{not, Some, None}
use Rattle.std.specs.Option.{option_copied_mut}
use Rattle.std.specs.Map.{lookup, set_value}
use Rattle.copy_jobs.specs.declared.key.Key.{Key}
use Rattle.copy_jobs.specs.declared.job.Job.{Job}
use Rattle.copy_jobs.specs.declared.job.Work.{Work}
use Rattle.copy_jobs.specs.declared.change.Change.{Change}
use Rattle.copy_jobs.specs.contracts.key.KeyPartialEq.TheImpl.{eq-value}
use Rattle.copy_jobs.specs.Jobs.{runs_as, is_busy, is_running_work, running, reserved_for}
use Rattle.copy_jobs.specs.Changes.{change, with_work}
use Rattle.copy_jobs.specs.inner.Entries.{jobs_of}
use Rattle.copy_jobs.specs.inner.Steps.{stepped, MayStep}
use Rattle.copy_jobs.specs.inner.Tables.{IsTable}
use Rattle.copy_jobs.proofs.Counts.{one_if, byte-one, reserved-few}
use Rattle.copy_jobs.proofs.Changed.{change-running, reserved-one}
use Rattle.copy_jobs.proofs.Entries.{changed}
use Rattle.copy_jobs.proofs.KeyEq.{key-own}
use Rattle.copy_jobs.proofs.Own.{running-under, busy-under}
use Rattle.copy_jobs.proofs.Stepping.{Stepping, stepping, stepped-table, stepped-frees}
use Rattle.copy_jobs.proofs.table.JobTable.change.Goals as goal

-- the work that lies under the key is that of the job that takes the step
record Turn (step : Change) (key : Key) (entries : List (Key × Work)) (work : Work) : Type 0 where
  pub s : Stepping step key (jobs_of entries)
  pub here : work ≡ s.it.job.work
  pub found : lookup (eq-value.it key) entries ≡ Some work

turn : {value : List Job} {own_running own_reserved : ℕ} (step : Change) (key : Key) (entries : List (Key × Work)) (work : Work) → jobs_of entries ≡ value → IsTable (jobs_of entries) own_running own_reserved
    → is_busy key value ≡ true → MayStep step key value → Some work ≡ lookup (eq-value.it key) entries → Turn step key entries work
turn {value} step key entries work view is busy may found =
    let s = stepping step key (jobs_of entries) is.jobs (ap (is_busy key) view ∙ busy) (rw view may) in
    let alike = running-under key (eq-value.it key) entries (key-own key) is.apart (Some work) found s.it.job s.it.is in
    record { s = s; here = alike; found = sym found }

-- what is left under the key
left : (step : Change) (key : Key) (entries : List (Key × Work)) (stood work : Work) {own_running own_reserved : ℕ} → IsTable (jobs_of entries) own_running own_reserved → Turn step key entries stood → work ≡ stepped step stood
    → jobs_of (set_value (eq-value.it key) entries work) ≡ change (runs_as key) (with_work (stepped step)) (jobs_of entries)
left step key entries stood work is t took =
    rw took (changed key (eq-value.it key) (stepped step) entries stood (key-own key) is.apart t.found (ap is_running_work t.here ∙ t.s.runs))

-- the work that is left is that of the job
left-work : (step : Change) (key : Key) (entries : List (Key × Work)) (stood work : Work) → (t : Turn step key entries stood) → work ≡ stepped step stood → work ≡ stepped step t.s.it.job.work
left-work step key entries stood work t took = took ∙ ap (stepped step) t.here

-- a job that runs no more was counted
was-counted : (step : Change) (key : Key) (jobs : List Job) (s : Stepping step key jobs) → one_if (not (is_running_work (stepped step s.it.job.work))) ≤ length (running jobs)
was-counted step key jobs s =
    let counted = change-running (runs_as key) (with_work (stepped step)) jobs s.it.job s.it.is in
    let was : one_if (is_running_work s.it.job.work) ≡ 1 = rw s.runs refl in
    either (is_running_work (stepped step s.it.job.work)) (omega (arith, counted, was))
  where
    either : (t : Bool) → 1 ≤ length (running jobs) + one_if t → one_if (not t) ≤ length (running jobs)
    either true h = omega arith
    either false h = omega arith

pub unreachable-requires : goal.unreachable-requires
unreachable-requires c =
    let busy : is_busy c.args.key (jobs_of c.self.inside.works.entries) ≡ true = ap (is_busy c.args.key) c.self.view_is ∙ c.requires.busy in
    let idle : is_busy c.args.key (jobs_of c.self.inside.works.entries) ≡ false =
    busy-under c.args.key (eq-value.it c.args.key) c.self.inside.works.entries (key-own c.args.key) c.self.invariant.0.apart None (sym (ap option_copied_mut c.in_default.is) ∙ c.peek_mut.follows) in
    let no : true ≡ false = sym busy ∙ idle in
    absurd cc

pub reserved-before-requires : goal.reserved-before-requires
reserved-before-requires c =
    let t = turn c.args.step c.args.key c.self.inside.works.entries c.in-Some.work.now c.self.view_is c.self.invariant.0 c.requires.busy c.requires.step (sym (ap option_copied_mut c.in-Some.is) ∙ c.peek_mut.follows) in
    rw t.here t.s.is.work

pub take-requires-clause-work : goal.take-requires-clause-work
take-requires-clause-work c =
    let t = turn c.args.step c.args.key c.self.inside.works.entries c.in-Some.work.now c.self.view_is c.self.invariant.0 c.requires.busy c.requires.step (sym (ap option_copied_mut c.in-Some.is) ∙ c.peek_mut.follows) in
    rw t.here t.s.is.work

pub take-requires-clause-step : goal.take-requires-clause-step
take-requires-clause-step c =
    let t = turn c.args.step c.args.key c.self.inside.works.entries c.in-Some.work.now c.self.view_is c.self.invariant.0 c.requires.busy c.requires.step (sym (ap option_copied_mut c.in-Some.is) ∙ c.peek_mut.follows) in
    rw t.here t.s.may

pub reserved-requires : goal.reserved-requires
reserved-requires c =
    let t = turn c.args.step c.args.key c.self.inside.works.entries c.in-Some.work.now c.self.view_is c.self.invariant.0 c.requires.busy c.requires.step (sym (ap option_copied_mut c.in-Some.is) ∙ c.peek_mut.follows) in
    rw (c.take.ensures, t.here) t.s.after.work

pub overflow_add-self : goal.overflow_add-self
overflow_add-self c =
    let is = c.self.invariant.0 in
    omega (arith, is.counts_reserved, is.few_running, reserved-few (jobs_of c.self.inside.works.entries) is.jobs, c.reserved.ensures.few)

pub overflow_sub-self : goal.overflow_sub-self
overflow_sub-self c =
    let t = turn c.args.step c.args.key c.self.inside.works.entries c.in-Some.work.now c.self.view_is c.self.invariant.0 c.requires.busy c.requires.step (sym (ap option_copied_mut c.in-Some.is) ∙ c.peek_mut.follows) in
    let before : c.reserved-before.result ≡ reserved_for t.s.it.job.work = c.reserved-before.ensures.reserved ∙ ap reserved_for t.here in
    let freed = reserved-one (jobs_of c.self.inside.works.entries) (runs_as c.args.key) t.s.it.job t.s.it.is in
    omega (arith, before, freed, c.self.invariant.0.counts_reserved)

pub overflow_sub-self-2 : goal.overflow_sub-self-2
overflow_sub-self-2 c =
    let t = turn c.args.step c.args.key c.self.inside.works.entries c.in-Some.work.now c.self.view_is c.self.invariant.0 c.requires.busy c.requires.step (sym (ap option_copied_mut c.in-Some.is) ∙ c.peek_mut.follows) in
    let work = left-work _ _ _ _ c.take.new.self t c.take.ensures in
    let runs : c.from.result ≡ one_if (not (is_running_work (stepped c.args.step t.s.it.job.work))) =
    c.from.ensures ∙ byte-one (not c.is_running.result) ∙ ap (λ b. one_if (not b)) (c.is_running.ensures ∙ ap is_running_work work) in
    let counted = was-counted c.args.step c.args.key (jobs_of c.self.inside.works.entries) t.s in
    omega (arith, c.self.invariant.0.counts_running, runs, counted)

pub invariant_of-self : goal.invariant_of-self
invariant_of-self c =
    let t = turn c.args.step c.args.key c.self.inside.works.entries c.in-Some.work.now c.self.view_is c.self.invariant.0 c.requires.busy c.requires.step (sym (ap option_copied_mut c.in-Some.is) ∙ c.peek_mut.follows) in
    let work = left-work _ _ _ _ c.take.new.self t c.take.ensures in
    let runs : c.from.result ≡ one_if (not (is_running_work (stepped c.args.step t.s.it.job.work))) =
    c.from.ensures ∙ byte-one (not c.is_running.result) ∙ ap (λ b. one_if (not b)) (c.is_running.ensures ∙ ap is_running_work work) in
    let before : c.reserved-before.result ≡ reserved_for t.s.it.job.work = c.reserved-before.ensures.reserved ∙ ap reserved_for t.here in
    let after : c.reserved.result ≡ reserved_for (stepped c.args.step t.s.it.job.work) = c.reserved.ensures.reserved ∙ ap reserved_for work in
    let kept = stepped-table c.args.step c.args.key (jobs_of c.self.inside.works.entries) c.self.inside.running c.self.inside.reserved c.self.invariant.0 t.s in
    rw (left _ _ _ _ c.take.new.self c.self.invariant.0 t c.take.ensures, runs, before, after) (kept, c.self.invariant.1)

pub returns-clause-changed : goal.returns-clause-changed
returns-clause-changed c =
    let t = turn c.args.step c.args.key c.self.inside.works.entries c.in-Some.work.now c.self.view_is c.self.invariant.0 c.requires.busy c.requires.step (sym (ap option_copied_mut c.in-Some.is) ∙ c.peek_mut.follows) in
    left _ _ _ _ c.take.new.self c.self.invariant.0 t c.take.ensures ∙ ap (change (runs_as c.args.key) (with_work (stepped c.args.step))) c.self.view_is

pub returns-clause-frees : goal.returns-clause-frees
returns-clause-frees c =
    let t = turn c.args.step c.args.key c.self.inside.works.entries c.in-Some.work.now c.self.view_is c.self.invariant.0 c.requires.busy c.requires.step (sym (ap option_copied_mut c.in-Some.is) ∙ c.peek_mut.follows) in
    let frees = stepped-frees c.args.step c.args.key (jobs_of c.self.inside.works.entries) t.s in
    rw (left _ _ _ _ c.take.new.self c.self.invariant.0 t c.take.ensures, ← c.self.view_is) frees
