use Rattle.std.proofs.Common.{◌≡◌, ◌+◌, List, ap, ◌∙◌, arith, true, false}
use Rattle.copy_jobs.specs.declared.job.Job.{Job}
use Rattle.copy_jobs.specs.Jobs.{is_busy, is_crowded, is_running, reserved, reserved_for}
use Rattle.copy_jobs.specs.Keeping.{keep}
use Rattle.copy_jobs.specs.inner.Entries.{jobs_of}
use Rattle.copy_jobs.specs.inner.Tables.{IsTable}
use Rattle.copy_jobs.proofs.Counts.{one_if, byte-one, reserved-few}
use Rattle.copy_jobs.proofs.Keeps.{kept-reserved, kept-table}
use Rattle.copy_jobs.proofs.table.JobTable.add.Goals as goal

pub overflow_add-self-2 : goal.overflow_add-self-2
overflow_add-self-2 c =
    let is = c.self.invariant.0 in
    omega (arith, is.counts_reserved, is.few_running, reserved-few (jobs_of c.self.inside.works.entries) is.jobs, c.reserved-reserved.ensures.few)

pub invariant_of-self-2 : goal.invariant_of-self-2
invariant_of-self-2 c =
    let jobs : List Job = jobs_of c.self.inside.works.entries in
    let job : Job = c.args.job in
    let idle : is_busy job.key jobs ≡ false = ap (is_busy job.key) c.self.view_is ∙ c.requires.idle in
    let room : is_running job ≡ true → is_crowded jobs ≡ false = λ e. ap is_crowded c.self.view_is ∙ c.requires.room e in
    let kept : IsTable (keep jobs job) (c.self.inside.running + one_if (is_running job)) (c.self.inside.reserved + reserved_for job.work) =
    kept-table jobs job c.self.inside.running c.self.inside.reserved c.self.invariant.0 c.requires.job idle room in
    let runs : c.from-runs.result ≡ one_if (is_running job) = c.from-runs.ensures ∙ byte-one c.is_running.result ∙ ap one_if c.is_running.ensures in
    rw (c.in_ok-keep.ensures.kept, runs, c.reserved-reserved.ensures.reserved) (kept, c.keep.ensures.cap ∙ c.self.invariant.1)

pub returns-clause-reserves : goal.returns-clause-reserves
returns-clause-reserves c =
    ap reserved c.in_ok-keep.ensures.kept ∙ kept-reserved (jobs_of c.self.inside.works.entries) c.args.job ∙ ap (λ (l : List Job). reserved l + reserved_for c.args.job.work) c.self.view_is
