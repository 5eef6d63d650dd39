use Rattle.std.proofs.Common.{◌≡◌, List, sym, ◌∙◌, refl, Bool}
use Rattle.std.specs.Prelude.{Option, Some, None, IfSome, find, is_some}
use Rattle.std.specs.List.{list_any}
use Rattle.copy_jobs.specs.declared.job.Job.{Job}
use Rattle.copy_jobs.specs.Pieces.{is_next}
use Rattle.copy_jobs.proofs.Entries.{find-none}
use Rattle.copy_jobs.proofs.Found.{find-any}
use Rattle.copy_jobs.proofs.table.JobTable.waits.Goals as goal

told : {A : Type 0} (r : Option A) (job : A → Job) (test : Job → Bool) (jobs : List Job) → (r ≡ None → find test jobs ≡ None) → IfSome r (λ found. find test jobs ≡ Some (job found))
    → is_some r ≡ list_any test jobs
told None job test jobs none found = sym (find-none test jobs (none refl))
told (Some x) job test jobs none found = sym (find-any test jobs (job x) found)

pub returns : goal.returns
returns c = c.is_some.ensures ∙ told c.next_work.result (λ found. record { key = found.0; work = found.1.now }) (is_next c.args.key) c.args.self.now c.next_work.ensures.none c.next_work.ensures.found
