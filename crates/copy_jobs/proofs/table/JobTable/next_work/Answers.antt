use Rattle.std.proofs.Common.{◌≡◌, ap, sym, ◌∙◌, true, false}
use Rattle.std.specs.Prelude.{Some, None, cond, ◌&&◌}
use Rattle.std.specs.Option.{option_copied}
use Rattle.copy_jobs.specs.declared.job.Work.{Work}
use Rattle.copy_jobs.specs.contracts.key.KeyPartialEq.TheImpl.{eq-value}
use Rattle.copy_jobs.specs.Jobs.{is_running_work}
use Rattle.copy_jobs.specs.Pieces.{is_foreground}
use Rattle.copy_jobs.proofs.Entries.{job-under}
use Rattle.copy_jobs.proofs.KeyEq.{key-own}
use Rattle.copy_jobs.proofs.Own.{next-under}
use Rattle.copy_jobs.proofs.table.JobTable.next_work.Goals as goal

pub returns-in_err-work-clause-none : goal.returns-in_err-work-clause-none
returns-in_err-work-clause-none c =
    let none = next-under c.in-Some.key (eq-value.it c.in-Some.key) c.self.inside.works.entries (key-own c.in-Some.key) c.self.invariant.0.apart None (sym (ap option_copied c.in_err-work.was) ∙ c.peek.ensures) in
    λ _. rw (c.in-Some.is, ← c.self.view_is) none

pub returns-then-runs_in_foreground-clause-found : goal.returns-then-runs_in_foreground-clause-found
returns-then-runs_in_foreground-clause-found c =
    let work : Work = c.in_ok-work.work.now in
    let on : (is_running_work work && is_foreground work) ≡ true = sym c.runs_in_foreground.ensures ∙ c.if-runs_in_foreground.true in
    let found = next-under c.in-Some.key (eq-value.it c.in-Some.key) c.self.inside.works.entries (key-own c.in-Some.key) c.self.invariant.0.apart (Some work) (sym (ap option_copied c.in_ok-work.was) ∙ c.peek.ensures) in
    rw (c.in-Some.is, ← c.self.view_is) (found ∙ ap (λ t. cond t (Some (job-under c.in-Some.key work)) None) on)

pub returns-else-runs_in_foreground-clause-none : goal.returns-else-runs_in_foreground-clause-none
returns-else-runs_in_foreground-clause-none c =
    let work : Work = c.in_ok-work.work.now in
    let off : (is_running_work work && is_foreground work) ≡ false = sym c.runs_in_foreground.ensures ∙ c.if-runs_in_foreground.false in
    let none = next-under c.in-Some.key (eq-value.it c.in-Some.key) c.self.inside.works.entries (key-own c.in-Some.key) c.self.invariant.0.apart (Some work) (sym (ap option_copied c.in_ok-work.was) ∙ c.peek.ensures) in
    λ _. rw (c.in-Some.is, ← c.self.view_is) (none ∙ ap (λ t. cond t (Some (job-under c.in-Some.key work)) None) off)

pub returns-in_default-clause-found : goal.returns-in_default-clause-found
returns-in_default-clause-found c = rw c.in_default.is c.first_running.ensures.found
