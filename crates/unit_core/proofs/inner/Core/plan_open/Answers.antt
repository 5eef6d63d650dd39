use Rattle.std.proofs.Common.{◌≡◌, ◌<◌, ◌^◌, arith, true, false, ◌∙◌, ap, refl, sym}
use Rattle.cm_history.specs.declared.act.Act.{Act}
use Rattle.cm_history.specs.Operations.{OfCopy}
use Rattle.cm_history.specs.History.{past_of}
use Rattle.copy_jobs.specs.Jobs as jobs
use Rattle.unit_core.specs.Keys.{key_of}
use Rattle.unit_core.specs.inner.Tables.{jobs_of}
use Rattle.unit_core.proofs.Jobs.{busy-is, crowded-is}
use Rattle.unit_core.proofs.Asking.{asker}
use Rattle.unit_core.proofs.Planned.{own-of}
use Rattle.unit_core.proofs.Steps.{known-of}
use Rattle.unit_core.proofs.NewPlans.{open-busy, open-many, open-made}
use Rattle.unit_core.proofs.inner.Core.plan_open.Goals as goal

pub returns-then-runs : goal.returns-then-runs
returns-then-runs g c = λ h a.
    let u = c.args.self.now in
    let past = past_of u.config u.unit h in
    let known = known-of u.config u.unit h a.record_is in
    let mine = asker c.args.self.now.unit c.args.actor (Act.Open c.args.id) c.requires.asked refl in
    let told = c.runs.ensures.busy ∙ ap (λ k. jobs.is_busy k u.tables.jobs) c.copy_key-key.ensures ∙ ap (jobs.is_busy (key_of c.args.actor OfCopy c.args.id)) a.jobs
    ∙ busy-is u.config u.unit past c.args.actor OfCopy c.args.id known.is (own-of u.config u.unit past known) mine in
    rw (c.answered.ensures, c.operation_in_progress.ensures) (λ at. open-busy u.config u.unit past c.args.actor at c.args.id (sym told ∙ c.if-runs.true))

pub returns-then-is_crowded : goal.returns-then-is_crowded
returns-then-is_crowded g c = λ h a.
    let u = c.args.self.now in
    let past = past_of u.config u.unit h in
    let known = known-of u.config u.unit h a.record_is in
    let mine = asker c.args.self.now.unit c.args.actor (Act.Open c.args.id) c.requires.asked refl in
    let told = c.runs.ensures.busy ∙ ap (λ k. jobs.is_busy k u.tables.jobs) c.copy_key-key.ensures ∙ ap (jobs.is_busy (key_of c.args.actor OfCopy c.args.id)) a.jobs
    ∙ busy-is u.config u.unit past c.args.actor OfCopy c.args.id known.is (own-of u.config u.unit past known) mine in
    let many : jobs.is_crowded (jobs_of past) ≡ true = sym (c.is_crowded.ensures ∙ ap jobs.is_crowded a.jobs) ∙ c.if-is_crowded.true in
    rw (c.answered-then-is_crowded.ensures, c.insufficient_resources.ensures)
    (λ at. open-many u.config u.unit past c.args.actor at c.args.id (sym told ∙ c.if-runs.false) (sym (crowded-is u.config u.unit past known.is) ∙ many))

pub returns : goal.returns
returns g c = λ h a.
    let u = c.args.self.now in
    let past = past_of u.config u.unit h in
    let known = known-of u.config u.unit h a.record_is in
    let mine = asker c.args.self.now.unit c.args.actor (Act.Open c.args.id) c.requires.asked refl in
    let told = c.runs.ensures.busy ∙ ap (λ k. jobs.is_busy k u.tables.jobs) c.copy_key-key.ensures ∙ ap (jobs.is_busy (key_of c.args.actor OfCopy c.args.id)) a.jobs
    ∙ busy-is u.config u.unit past c.args.actor OfCopy c.args.id known.is (own-of u.config u.unit past known) mine in
    let few : jobs.is_crowded (jobs_of past) ≡ false = sym (c.is_crowded.ensures ∙ ap jobs.is_crowded a.jobs) ∙ c.if-is_crowded.false in
    let byte : c.args.id < 2 ^ 8 = omega arith in
    rw (c.of_jobs.ensures, c.copy_key-key.ensures)
    (λ at. open-made u.config u.unit past c.args.actor at c.args.id known mine byte (sym told ∙ c.if-runs.false) (sym (crowded-is u.config u.unit past known.is) ∙ few))
