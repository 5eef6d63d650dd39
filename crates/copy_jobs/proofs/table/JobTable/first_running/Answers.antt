use Rattle.std.proofs.Common.{◌≡◌, ◌∷◌, ap, sym, ◌∙◌, true, false, length}
use Rattle.std.specs.Prelude.{Some, None, find, cond}
use Rattle.std.specs.Option.{option_map}
use Rattle.std.specs.Map.Iter.{deref_pair}
use Rattle.copy_jobs.specs.declared.key.Key.{Key}
use Rattle.copy_jobs.specs.declared.job.Job.{Job}
use Rattle.copy_jobs.specs.declared.job.Work.{Work}
use Rattle.copy_jobs.specs.Jobs.{running}
use Rattle.copy_jobs.specs.inner.Entries.{job_of, jobs_of}
use Rattle.copy_jobs.specs.inner.Sought.{runs_so}
use Rattle.copy_jobs.proofs.Entries.{newest}
use Rattle.copy_jobs.proofs.Newest.{none-found, newest-alone}
use Rattle.copy_jobs.proofs.table.JobTable.first_running.Goals as goal

pub returns-then-self-eq0-clause-none : goal.returns-then-self-eq0-clause-none
returns-then-self-eq0-clause-none c =
    let none = none-found c.args.background (jobs_of c.self.inside.works.entries) (sym c.self.invariant.0.counts_running ∙ c.if-self-eq0.true) in
    λ _. rw (← c.self.view_is) none

pub returns-then-is-clause-found : goal.returns-then-is-clause-found
returns-then-is-clause-found c =
    let entry : Key × Work = (c.in-Some.key.now, c.in-Some.work.now) in
    let it = newest c.self.inside.works.entries entry (sym c.peek_mru.ensures ∙ ap (option_map deref_pair) c.in-Some.is) in
    let one : length (running (jobs_of (entry ∷ it.0))) ≡ 1 = ap (λ l. length (running (jobs_of l))) (sym it.1) ∙ sym c.self.invariant.0.counts_running ∙ c.if-self-eq1.true in
    let alone = newest-alone c.args.background entry it.0 one (sym c.is_running.ensures ∙ c.if-is_running.true) in
    let on : runs_so c.args.background c.in-Some.work.now ≡ true = sym c.is.ensures ∙ c.if-is.true in
    let found : find (λ (job : Job). runs_so c.args.background job.work) (jobs_of c.self.inside.works.entries) ≡ Some (job_of entry) =
    ap (λ l. find (λ (job : Job). runs_so c.args.background job.work) (jobs_of l)) it.1 ∙ alone ∙ ap (λ t. cond t (Some (job_of entry)) None) on in
    rw (← c.self.view_is) found

pub returns-clause-none : goal.returns-clause-none
returns-clause-none c =
    let entry : Key × Work = (c.in-Some.key.now, c.in-Some.work.now) in
    let it = newest c.self.inside.works.entries entry (sym c.peek_mru.ensures ∙ ap (option_map deref_pair) c.in-Some.is) in
    let one : length (running (jobs_of (entry ∷ it.0))) ≡ 1 = ap (λ l. length (running (jobs_of l))) (sym it.1) ∙ sym c.self.invariant.0.counts_running ∙ c.if-self-eq1.true in
    let alone = newest-alone c.args.background entry it.0 one (sym c.is_running.ensures ∙ c.if-is_running.true) in
    let off : runs_so c.args.background c.in-Some.work.now ≡ false = sym c.is.ensures ∙ c.if-is.false in
    let none : find (λ (job : Job). runs_so c.args.background job.work) (jobs_of c.self.inside.works.entries) ≡ None =
    ap (λ l. find (λ (job : Job). runs_so c.args.background job.work) (jobs_of l)) it.1 ∙ alone ∙ ap (λ t. cond t (Some (job_of entry)) None) off in
    λ _. rw (← c.self.view_is) none

pub returns-2-clause-found : goal.returns-2-clause-found
returns-2-clause-found c = rw (← c.self.view_is) c.first.ensures.found
