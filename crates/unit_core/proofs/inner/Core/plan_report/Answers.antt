use Rattle.std.proofs.Common.{◌∙◌, ap, refl, sym}
use Rattle.std.specs.Option.{option_map}
use Rattle.std.specs.Prelude.{find}
use Rattle.cm_history.specs.declared.act.Act.{Act}
use Rattle.cm_history.specs.Operations.{OfToken}
use Rattle.cm_history.specs.History.{past_of}
use Rattle.copy_jobs.specs.declared.key.Key.{Key}
use Rattle.copy_jobs.specs.declared.job.Job.{Job}
use Rattle.copy_jobs.specs.Jobs as jobs
use Rattle.copy_jobs.specs.Reports as reports
use Rattle.unit_core.specs.Keys.{key_of}
use Rattle.unit_core.proofs.Asking.{asker}
use Rattle.unit_core.proofs.Steps.{known-of}
use Rattle.unit_core.proofs.TableAnswers.{report-plan, report-none}
use Rattle.unit_core.proofs.inner.Core.plan_report.Goals as goal

pub returns-in-Some : goal.returns-in-Some
returns-in-Some g c = λ h a.
    let u = c.args.self.now in
    let past = past_of u.config u.unit h in
    let known = known-of u.config u.unit h a.record_is in
    let mine = asker c.args.self.now.unit c.args.actor (Act.Report c.args.id) c.requires.asked refl in
    let kept = ap (λ (k : Key). option_map (λ (j : Job). reports.report_of j.work) (find (jobs.has_key k) u.tables.jobs)) c.token_key.ensures
    ∙ ap (λ js. option_map (λ (j : Job). reports.report_of j.work) (find (jobs.has_key (key_of c.args.actor OfToken c.args.id)) js)) a.jobs in
    rw (c.answered.ensures) (λ at. report-plan u.config u.unit past c.args.actor at c.args.id c.in-Some.report known mine (sym c.in-Some.is ∙ c.report.ensures ∙ kept))

pub returns-in-None : goal.returns-in-None
returns-in-None g c = λ h a.
    let u = c.args.self.now in
    let past = past_of u.config u.unit h in
    let known = known-of u.config u.unit h a.record_is in
    let mine = asker c.args.self.now.unit c.args.actor (Act.Report c.args.id) c.requires.asked refl in
    let kept = ap (λ (k : Key). option_map (λ (j : Job). reports.report_of j.work) (find (jobs.has_key k) u.tables.jobs)) c.token_key.ensures
    ∙ ap (λ js. option_map (λ (j : Job). reports.report_of j.work) (find (jobs.has_key (key_of c.args.actor OfToken c.args.id)) js)) a.jobs in
    rw (c.answered-in-None.ensures, c.no_such_operation.ensures) (λ at. report-none u.config u.unit past c.args.actor at c.args.id known mine (sym c.in-None.is ∙ c.report.ensures ∙ kept))
