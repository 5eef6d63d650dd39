use Rattle.std.proofs.Common.{ℕ, ◌∙◌, ap, refl, sym, subst}
use Rattle.std.specs.List.{list_any}
use Rattle.std.specs.Option.{option_map}
use Rattle.std.specs.Prelude.{Some, find}
use Rattle.cm_history.specs.declared.act.Act.{Act}
use Rattle.cm_history.specs.declared.answer.Answer.{Answer}
use Rattle.cm_history.specs.declared.answer.OpState.{OpState}
use Rattle.cm_history.specs.Operations.{OfToken, would_serve, count}
use Rattle.cm_history.specs.History.{past_of}
use Rattle.copy_jobs.specs.declared.key.Key.{Key}
use Rattle.copy_jobs.specs.declared.job.Job.{Job}
use Rattle.copy_jobs.specs.Jobs as jobs
use Rattle.copy_jobs.specs.Pieces as next
use Rattle.copy_jobs.specs.Reports as reports
use Rattle.unit_core.specs.declared.job_change.JobChange.{JobChange}
use Rattle.unit_core.specs.Keys.{key_of}
use Rattle.unit_core.specs.inner.Planning.{quiet, IsPlan}
use Rattle.unit_core.proofs.Asking.{asker, serves-advance}
use Rattle.unit_core.proofs.Steps.{known-of}
use Rattle.unit_core.proofs.ServePlans.{end-plan}
use Rattle.unit_core.proofs.TableAnswers.{none-some, some-there, end-none, end-count, end-kept}
use Rattle.unit_core.proofs.inner.Core.plan_end.Goals as goal

pub returns-then-not-waits : goal.returns-then-not-waits
returns-then-not-waits g c = λ h a.
    let u = c.args.self.now in
    let past = past_of u.config u.unit h in
    let known = known-of u.config u.unit h a.record_is in
    let mine = asker c.args.self.now.unit c.args.actor (Act.End c.args.id) c.requires.asked refl in
    let told = c.waits.ensures ∙ ap (λ k. list_any (next.is_next (Some k)) u.tables.jobs) c.token_key-key.ensures ∙ ap (list_any (next.is_next (Some (key_of c.args.actor OfToken c.args.id)))) a.jobs
    ∙ serves-advance u.config u.unit past c.args.actor c.args.id known mine in
    let none = none-some (would_serve past c.args.actor (Act.End c.args.id)) (sym told ∙ c.if-not-waits.true) in
    rw (c.answered.ensures, c.no_such_operation.ensures) (λ at. end-none u.config u.unit past c.args.actor at c.args.id none)

pub returns-in-Some : goal.returns-in-Some
returns-in-Some g c = λ h a.
    let u = c.args.self.now in
    let past = past_of u.config u.unit h in
    let known = known-of u.config u.unit h a.record_is in
    let mine = asker c.args.self.now.unit c.args.actor (Act.End c.args.id) c.requires.asked refl in
    let told = c.waits.ensures ∙ ap (λ k. list_any (next.is_next (Some k)) u.tables.jobs) c.token_key-key.ensures ∙ ap (list_any (next.is_next (Some (key_of c.args.actor OfToken c.args.id)))) a.jobs
    ∙ serves-advance u.config u.unit past c.args.actor c.args.id known mine in
    let there = some-there (would_serve past c.args.actor (Act.End c.args.id)) (sym told ∙ c.if-not-waits.false) in
    let kept = ap (λ (k : Key). option_map (λ (j : Job). reports.report_of j.work) (find (jobs.has_key k) u.tables.jobs)) c.token_key-key.ensures
    ∙ ap (λ js. option_map (λ (j : Job). reports.report_of j.work) (find (jobs.has_key (key_of c.args.actor OfToken c.args.id)) js)) a.jobs in
    let counted = end-count u.config u.unit past c.args.actor c.args.id there.item c.in-Some.report known mine there.is (sym c.in-Some.is ∙ c.report.ensures ∙ kept) in
    let core : (at : ℕ) → IsPlan u.config u.unit past c.args.actor at (Act.End c.args.id) (record (quiet (Answer.Progress OpState.Terminated (count there.item))) { jobs = JobChange.End (key_of c.args.actor OfToken c.args.id) }) =
    λ at. end-plan u.config u.unit past c.args.actor at c.args.id there.item known there.is in
    let keyed = subst (λ k. (at : ℕ) → IsPlan u.config u.unit past c.args.actor at (Act.End c.args.id) (record (quiet (Answer.Progress OpState.Terminated (count there.item))) { jobs = JobChange.End k })) (sym c.token_key-key.ensures) core in
    let told-count = subst (λ n. (at : ℕ) → IsPlan u.config u.unit past c.args.actor at (Act.End c.args.id) (record (quiet (Answer.Progress OpState.Terminated n)) { jobs = JobChange.End c.token_key-key.result })) (sym counted) keyed in
    rw (c.of_jobs.ensures) told-count

pub returns-in-None : goal.returns-in-None
returns-in-None g c = λ h a.
    let u = c.args.self.now in
    let past = past_of u.config u.unit h in
    let known = known-of u.config u.unit h a.record_is in
    let mine = asker c.args.self.now.unit c.args.actor (Act.End c.args.id) c.requires.asked refl in
    let told = c.waits.ensures ∙ ap (λ k. list_any (next.is_next (Some k)) u.tables.jobs) c.token_key-key.ensures ∙ ap (list_any (next.is_next (Some (key_of c.args.actor OfToken c.args.id)))) a.jobs
    ∙ serves-advance u.config u.unit past c.args.actor c.args.id known mine in
    let there = some-there (would_serve past c.args.actor (Act.End c.args.id)) (sym told ∙ c.if-not-waits.false) in
    let kept = ap (λ (k : Key). option_map (λ (j : Job). reports.report_of j.work) (find (jobs.has_key k) u.tables.jobs)) c.token_key-key.ensures
    ∙ ap (λ js. option_map (λ (j : Job). reports.report_of j.work) (find (jobs.has_key (key_of c.args.actor OfToken c.args.id)) js)) a.jobs in
    absurd (end-kept u.config u.unit past c.args.actor c.args.id there.item known mine there.is (sym c.in-None.is ∙ c.report.ensures ∙ kept))
