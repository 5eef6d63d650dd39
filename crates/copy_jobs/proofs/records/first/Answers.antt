use Rattle.std.proofs.Common.{◌≡◌, sym, ◌∙◌, ap, Bool, true, false}
use Rattle.std.specs.Prelude.{Some, find, cond}
use Rattle.copy_jobs.specs.declared.key.Key.{Key}
use Rattle.copy_jobs.specs.declared.job.Job.{Job}
use Rattle.copy_jobs.specs.declared.job.Work.{Work}
use Rattle.copy_jobs.specs.inner.Entries.{job_of, jobs_of}
use Rattle.copy_jobs.specs.inner.Sought.{is_sought}
use Rattle.copy_jobs.proofs.Entries.{find-oldest}
use Rattle.copy_jobs.proofs.records.first.Goals as goal

pub returns-then-is-clause-found : goal.returns-then-is-clause-found
returns-then-is-clause-found c =
    let test : Job → Bool = λ job. is_sought c.args.sought job.work in
    let entry : Key × Work = (c.in-Some.key.now, c.in-Some.work.now) in
    let on : is_sought c.args.sought c.in-Some.work.now ≡ true = sym c.is.ensures ∙ c.if-is.true in
    let found : find test (jobs_of c.args.works.now.entries) ≡ Some (job_of entry) =
    sym c.loop-key.invariant ∙ find-oldest test c.loop-key.older c.next_back.new.self entry c.in-Some.ensures.steps
    ∙ ap (λ t. cond t (Some (job_of entry)) (find test (jobs_of c.next_back.new.self))) on in
    found

pub loop-key-preserved : goal.loop-key-preserved
loop-key-preserved c =
    let test : Job → Bool = λ job. is_sought c.args.sought job.work in
    let entry : Key × Work = (c.in-Some.key.now, c.in-Some.work.now) in
    let off : is_sought c.args.sought c.in-Some.work.now ≡ false = sym c.is.ensures ∙ c.if-is.false in
    let next : find test (jobs_of c.loop-key.older) ≡ find test (jobs_of c.next_back.new.self) =
    find-oldest test c.loop-key.older c.next_back.new.self entry c.in-Some.ensures.steps
    ∙ ap (λ t. cond t (Some (job_of entry)) (find test (jobs_of c.next_back.new.self))) off in
    sym next ∙ c.loop-key.invariant
