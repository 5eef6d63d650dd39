use Rattle.std.proofs.Common.{ap, sym, ◌∙◌}
use Rattle.std.specs.Prelude.{Some, None}
use Rattle.std.specs.Option.{option_map, option_copied}
use Rattle.copy_jobs.specs.declared.job.Job.{Job}
use Rattle.copy_jobs.specs.Reports.{result_of}
use Rattle.copy_jobs.proofs.KeyEq.{key-own}
use Rattle.copy_jobs.proofs.Own.{under}
use Rattle.copy_jobs.proofs.table.JobTable.recall.Goals as goal

pub returns-in_err-work : goal.returns-in_err-work
returns-in_err-work c =
    let none = under c.args.key _ c.self.inside.works.entries (key-own c.args.key) c.self.invariant.0.apart None (sym (ap option_copied c.in_err-work.was) ∙ c.peek.ensures) in
    rw (c.from_residual.ensures, ← c.self.view_is) (sym (ap (option_map (λ (job : Job). result_of job.work)) none))

pub returns : goal.returns
returns c =
    let found = under c.args.key _ c.self.inside.works.entries (key-own c.args.key) c.self.invariant.0.apart (Some c.in_ok-work.work.now) (sym (ap option_copied c.in_ok-work.was) ∙ c.peek.ensures) in
    rw (c.result.ensures, ← c.self.view_is) (sym (ap (option_map (λ (job : Job). result_of job.work)) found))
