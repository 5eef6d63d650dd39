use Rattle.std.proofs.Common.{◌∙◌, ap, refl, sym}
use Rattle.cm_history.specs.declared.act.Act.{Act}
use Rattle.cm_history.specs.Operations.{OfCopy, would_serve}
use Rattle.cm_history.specs.History.{past_of}
use Rattle.copy_jobs.specs.Jobs as jobs
use Rattle.unit_core.specs.Keys.{key_of}
use Rattle.unit_core.proofs.Asking.{asker, serves-close}
use Rattle.unit_core.proofs.Steps.{known-of}
use Rattle.unit_core.proofs.ServePlans.{close-plan}
use Rattle.unit_core.proofs.TableAnswers.{none-some, some-there, close-none}
use Rattle.unit_core.proofs.inner.Core.plan_close.Goals as goal

pub returns-then-not-runs : goal.returns-then-not-runs
returns-then-not-runs g c = λ h a.
    let u = c.args.self.now in
    let past = past_of u.config u.unit h in
    let known = known-of u.config u.unit h a.record_is in
    let mine = asker c.args.self.now.unit c.args.actor (Act.Close c.args.id c.args.end) c.requires.asked refl in
    let told = c.runs.ensures.busy ∙ ap (λ k. jobs.is_busy k u.tables.jobs) c.copy_key-key.ensures ∙ ap (jobs.is_busy (key_of c.args.actor OfCopy c.args.id)) a.jobs
    ∙ serves-close u.config u.unit past c.args.actor c.args.id c.args.end known mine in
    let none = none-some (would_serve past c.args.actor (Act.Close c.args.id c.args.end)) (sym told ∙ c.if-not-runs.true) in
    rw (c.answered.ensures, c.no_such_operation.ensures) (λ at. close-none u.config u.unit past c.args.actor at c.args.id c.args.end none)

pub returns : goal.returns
returns g c = λ h a.
    let u = c.args.self.now in
    let past = past_of u.config u.unit h in
    let known = known-of u.config u.unit h a.record_is in
    let mine = asker c.args.self.now.unit c.args.actor (Act.Close c.args.id c.args.end) c.requires.asked refl in
    let told = c.runs.ensures.busy ∙ ap (λ k. jobs.is_busy k u.tables.jobs) c.copy_key-key.ensures ∙ ap (jobs.is_busy (key_of c.args.actor OfCopy c.args.id)) a.jobs
    ∙ serves-close u.config u.unit past c.args.actor c.args.id c.args.end known mine in
    let there = some-there (would_serve past c.args.actor (Act.Close c.args.id c.args.end)) (sym told ∙ c.if-not-runs.false) in
    rw (c.of_jobs.ensures, c.copy_key-key.ensures) (λ at. close-plan u.config u.unit past c.args.actor at c.args.id c.args.end there.item known c.requires.limits there.is)
