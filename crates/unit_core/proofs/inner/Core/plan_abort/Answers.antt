use Rattle.std.proofs.Common.{◌∙◌, ap, refl, sym}
use Rattle.std.specs.List.{list_any}
use Rattle.cm_history.specs.declared.act.Act.{Act}
use Rattle.cm_history.specs.Operations.{OfToken, would_serve}
use Rattle.cm_history.specs.History.{past_of}
use Rattle.copy_jobs.specs.Pieces as next
use Rattle.unit_core.specs.Keys.{key_of}
use Rattle.unit_core.proofs.Asking.{asker, serves-abort}
use Rattle.unit_core.proofs.Steps.{known-of}
use Rattle.unit_core.proofs.ServePlans.{abort-plan}
use Rattle.unit_core.proofs.TableAnswers.{none-some, some-there, abort-none}
use Rattle.unit_core.proofs.inner.Core.plan_abort.Goals as goal

pub returns-then-not-runs_in_background : goal.returns-then-not-runs_in_background
returns-then-not-runs_in_background g c = λ h a.
    let u = c.args.self.now in
    let past = past_of u.config u.unit h in
    let known = known-of u.config u.unit h a.record_is in
    let mine = asker c.args.self.now.unit c.args.actor (Act.Abort c.args.id) c.requires.asked refl in
    let told = c.runs_in_background.ensures ∙ ap (λ k. list_any (next.runs_in_background k) u.tables.jobs) c.token_key-key.ensures ∙ ap (list_any (next.runs_in_background (key_of c.args.actor OfToken c.args.id))) a.jobs
    ∙ serves-abort u.config u.unit past c.args.actor c.args.id known mine in
    let none = none-some (would_serve past c.args.actor (Act.Abort c.args.id)) (sym told ∙ c.if-not-runs_in_background.true) in
    rw (c.answered.ensures, c.no_such_operation.ensures) (λ at. abort-none u.config u.unit past c.args.actor at c.args.id none)

pub returns : goal.returns
returns g c = λ h a.
    let u = c.args.self.now in
    let past = past_of u.config u.unit h in
    let known = known-of u.config u.unit h a.record_is in
    let mine = asker c.args.self.now.unit c.args.actor (Act.Abort c.args.id) c.requires.asked refl in
    let told = c.runs_in_background.ensures ∙ ap (λ k. list_any (next.runs_in_background k) u.tables.jobs) c.token_key-key.ensures ∙ ap (list_any (next.runs_in_background (key_of c.args.actor OfToken c.args.id))) a.jobs
    ∙ serves-abort u.config u.unit past c.args.actor c.args.id known mine in
    let there = some-there (would_serve past c.args.actor (Act.Abort c.args.id)) (sym told ∙ c.if-not-runs_in_background.false) in
    rw (c.of_jobs.ensures, c.token_key-key.ensures) (λ at. abort-plan u.config u.unit past c.args.actor at c.args.id there.item known there.is)
