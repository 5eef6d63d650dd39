use Rattle.std.proofs.Common.{◌≡◌, ◌≤◌, length, true, false, ◌∙◌, ap, refl, sym, arith}
use Rattle.std.specs.Prelude.{◌==◌, ◌^◌}
use Rattle.cm_base.specs.declared.config.UnitConfig.{UnitConfig}
use Rattle.cm_base.specs.Units.{unit_of}
use Rattle.lba_ranges.specs.Denoted.{is_within}
use Rattle.cm_history.specs.declared.act.Act.{Act}
use Rattle.cm_history.specs.Operations.{OfToken}
use Rattle.cm_history.specs.History.{past_of}
use Rattle.copy_jobs.specs.Jobs as jobs
use Rattle.unit_core.specs.Keys.{key_of}
use Rattle.unit_core.specs.inner.Tables.{jobs_of}
use Rattle.unit_core.proofs.Jobs.{busy-is, crowded-is}
use Rattle.unit_core.proofs.Asking.{asker}
use Rattle.unit_core.proofs.Planned.{own-of}
use Rattle.unit_core.proofs.Steps.{known-of}
use Rattle.unit_core.proofs.NewPlans.{start-busy, start-out, start-many, start-made, start-may}
use Rattle.unit_core.proofs.inner.Core.plan_start.Goals as goal

pub returns-then-runs : goal.returns-then-runs
returns-then-runs g c = λ h a.
    let u = c.args.self.now in
    let past = past_of u.config u.unit h in
    let known = known-of u.config u.unit h a.record_is in
    let mine = asker c.args.self.now.unit c.args.actor (Act.Start c.args.id c.args.background c.args.ranges.now c.args.rod.now) c.requires.asked refl in
    let told = c.runs.ensures.busy ∙ ap (λ k. jobs.is_busy k u.tables.jobs) c.token_key-key.ensures ∙ ap (jobs.is_busy (key_of c.args.actor OfToken c.args.id)) a.jobs
    ∙ busy-is u.config u.unit past c.args.actor OfToken c.args.id known.is (own-of u.config u.unit past known) mine in
    rw (c.answered.ensures, c.operation_in_progress.ensures) (λ at free. start-busy u.config u.unit past c.args.actor at c.args.id c.args.background c.args.ranges.now c.args.rod.now free (sym told ∙ c.if-runs.true))

pub returns-then-not-within : goal.returns-then-not-within
returns-then-not-within g c = λ h a.
    let u = c.args.self.now in
    let past = past_of u.config u.unit h in
    let known = known-of u.config u.unit h a.record_is in
    let mine = asker c.args.self.now.unit c.args.actor (Act.Start c.args.id c.args.background c.args.ranges.now c.args.rod.now) c.requires.asked refl in
    let told = c.runs.ensures.busy ∙ ap (λ k. jobs.is_busy k u.tables.jobs) c.token_key-key.ensures ∙ ap (jobs.is_busy (key_of c.args.actor OfToken c.args.id)) a.jobs
    ∙ busy-is u.config u.unit past c.args.actor OfToken c.args.id known.is (own-of u.config u.unit past known) mine in
    let inside : c.within.result ≡ is_within (unit_of u.config u.unit).blocks c.args.ranges.now = c.within.ensures ∙ ap (λ (t : UnitConfig). is_within t.blocks c.args.ranges.now) c.unit.ensures.told in
    rw (c.answered-then-not-within.ensures, c.lba_out_of_range.ensures)
    (λ at free. start-out u.config u.unit past c.args.actor at c.args.id c.args.background c.args.ranges.now c.args.rod.now free (sym told ∙ c.if-runs.false) (sym inside ∙ c.if-not-within.true))

pub returns-then-is_crowded : goal.returns-then-is_crowded
returns-then-is_crowded g c = λ h a.
    let u = c.args.self.now in
    let past = past_of u.config u.unit h in
    let known = known-of u.config u.unit h a.record_is in
    let mine = asker c.args.self.now.unit c.args.actor (Act.Start c.args.id c.args.background c.args.ranges.now c.args.rod.now) c.requires.asked refl in
    let told = c.runs.ensures.busy ∙ ap (λ k. jobs.is_busy k u.tables.jobs) c.token_key-key.ensures ∙ ap (jobs.is_busy (key_of c.args.actor OfToken c.args.id)) a.jobs
    ∙ busy-is u.config u.unit past c.args.actor OfToken c.args.id known.is (own-of u.config u.unit past known) mine in
    let inside : c.within.result ≡ is_within (unit_of u.config u.unit).blocks c.args.ranges.now = c.within.ensures ∙ ap (λ (t : UnitConfig). is_within t.blocks c.args.ranges.now) c.unit.ensures.told in
    let many : jobs.is_crowded (jobs_of past) ≡ true = sym (c.is_crowded.ensures ∙ ap jobs.is_crowded a.jobs) ∙ c.if-is_crowded.true in
    rw (c.answered-then-is_crowded.ensures, c.insufficient_resources.ensures)
    (λ at free. start-many u.config u.unit past c.args.actor at c.args.id c.args.background c.args.ranges.now c.args.rod.now free (sym told ∙ c.if-runs.false) (sym inside ∙ c.if-not-within.false) (sym (crowded-is u.config u.unit past known.is) ∙ many))

pub returns : goal.returns
returns g c = λ h a.
    let u = c.args.self.now in
    let past = past_of u.config u.unit h in
    let known = known-of u.config u.unit h a.record_is in
    let mine = asker c.args.self.now.unit c.args.actor (Act.Start c.args.id c.args.background c.args.ranges.now c.args.rod.now) c.requires.asked refl in
    let told = c.runs.ensures.busy ∙ ap (λ k. jobs.is_busy k u.tables.jobs) c.token_key-key.ensures ∙ ap (jobs.is_busy (key_of c.args.actor OfToken c.args.id)) a.jobs
    ∙ busy-is u.config u.unit past c.args.actor OfToken c.args.id known.is (own-of u.config u.unit past known) mine in
    let inside : c.within.result ≡ is_within (unit_of u.config u.unit).blocks c.args.ranges.now = c.within.ensures ∙ ap (λ (t : UnitConfig). is_within t.blocks c.args.ranges.now) c.unit.ensures.told in
    let within : is_within (unit_of u.config u.unit).blocks c.args.ranges.now ≡ true = sym inside ∙ c.if-not-within.false in
    let few : jobs.is_crowded (jobs_of past) ≡ false = sym (c.is_crowded.ensures ∙ ap jobs.is_crowded a.jobs) ∙ c.if-is_crowded.false in
    let limits = c.requires.limits in
    let blocks : (unit_of u.config u.unit).blocks ≤ 2 ^ 64 = omega (arith, a.record_is.limits.blocks.1) in
    let idle = busy-is u.config u.unit past c.args.actor OfToken c.args.id known.is (own-of u.config u.unit past known) mine ∙ sym told ∙ c.if-runs.false in
    let may = start-may u.config u.unit past c.args.actor c.args.id c.args.background c.args.ranges.now c.args.rod.now limits blocks within idle few in
    rw (c.of_jobs.ensures, c.state_after.ensures, c.blocks-2.ensures.count, c.in_ok-ranges.ensures, c.in_ok-rod.ensures, c.token_key-key.ensures)
    (λ at free. start-made u.config u.unit past c.args.actor at c.args.id c.args.background c.args.ranges.now c.args.rod.now (length c.args.rod.now.items == 0) known mine free limits
    (sym told ∙ c.if-runs.false) within (sym (crowded-is u.config u.unit past known.is) ∙ few) refl may)
