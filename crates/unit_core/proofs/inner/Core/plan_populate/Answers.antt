use Rattle.std.proofs.Common.{◌≡◌, length, true, ◌∙◌, ap, refl, sym, arith}
use Rattle.cm_base.specs.declared.config.UnitConfig.{UnitConfig}
use Rattle.cm_base.specs.Units.{unit_of}
use Rattle.lba_ranges.specs.Denoted.{is_within}
use Rattle.cm_history.specs.declared.act.Act.{Act}
use Rattle.cm_history.specs.Tokens.{tokens}
use Rattle.cm_history.specs.Operations.{OfToken}
use Rattle.cm_history.specs.History.{past_of}
use Rattle.copy_jobs.specs.Jobs as jobs
use Rattle.unit_core.specs.Keys.{key_of}
use Rattle.unit_core.specs.inner.Tables.{kept_of}
use Rattle.rod_store.specs.Kept.{kept_with}
use Rattle.rod_store.specs.Pinning.{rod_shown}
use Rattle.unit_core.proofs.Jobs.{busy-is}
use Rattle.unit_core.proofs.Asking.{asker}
use Rattle.unit_core.proofs.Planned.{own-of}
use Rattle.unit_core.proofs.Steps.{known-of}
use Rattle.std.proofs.lemmas.List.{length-map}
use Rattle.unit_core.proofs.NewPlans.{populate-busy, populate-out, populate-many, populate-made}
use Rattle.unit_core.proofs.inner.Core.plan_populate.Goals as goal

pub returns-then-runs : goal.returns-then-runs
returns-then-runs g c = λ h a.
    let u = c.args.self.now in
    let past = past_of u.config u.unit h in
    let known = known-of u.config u.unit h a.record_is in
    let mine = asker c.args.self.now.unit c.args.actor (Act.Populate c.args.id c.args.timeout c.args.ranges.now) c.requires.asked refl in
    let told = c.runs.ensures.busy ∙ ap (λ k. jobs.is_busy k u.tables.jobs) c.token_key-key.ensures ∙ ap (jobs.is_busy (key_of c.args.actor OfToken c.args.id)) a.jobs
    ∙ busy-is u.config u.unit past c.args.actor OfToken c.args.id known.is (own-of u.config u.unit past known) mine in
    rw (c.answered.ensures, c.operation_in_progress.ensures) (λ at free. populate-busy u.config u.unit past c.args.actor at c.args.id c.args.timeout c.args.ranges.now free (sym told ∙ c.if-runs.true))

pub returns-then-not-within : goal.returns-then-not-within
returns-then-not-within g c = λ h a.
    let u = c.args.self.now in
    let past = past_of u.config u.unit h in
    let known = known-of u.config u.unit h a.record_is in
    let mine = asker c.args.self.now.unit c.args.actor (Act.Populate c.args.id c.args.timeout c.args.ranges.now) c.requires.asked refl in
    let told = c.runs.ensures.busy ∙ ap (λ k. jobs.is_busy k u.tables.jobs) c.token_key-key.ensures ∙ ap (jobs.is_busy (key_of c.args.actor OfToken c.args.id)) a.jobs
    ∙ busy-is u.config u.unit past c.args.actor OfToken c.args.id known.is (own-of u.config u.unit past known) mine in
    let inside : c.within.result ≡ is_within (unit_of u.config u.unit).blocks c.args.ranges.now = c.within.ensures ∙ ap (λ (t : UnitConfig). is_within t.blocks c.args.ranges.now) c.unit.ensures.told in
    rw (c.answered-then-not-within.ensures, c.lba_out_of_range.ensures)
    (λ at free. populate-out u.config u.unit past c.args.actor at c.args.id c.args.timeout c.args.ranges.now free (sym told ∙ c.if-runs.false) (sym inside ∙ c.if-not-within.true))

pub returns-then-serial-ge-SERIALS : goal.returns-then-serial-ge-SERIALS
returns-then-serial-ge-SERIALS g c = λ h a.
    let u = c.args.self.now in
    let past = past_of u.config u.unit h in
    let known = known-of u.config u.unit h a.record_is in
    let mine = asker c.args.self.now.unit c.args.actor (Act.Populate c.args.id c.args.timeout c.args.ranges.now) c.requires.asked refl in
    let told = c.runs.ensures.busy ∙ ap (λ k. jobs.is_busy k u.tables.jobs) c.token_key-key.ensures ∙ ap (jobs.is_busy (key_of c.args.actor OfToken c.args.id)) a.jobs
    ∙ busy-is u.config u.unit past c.args.actor OfToken c.args.id known.is (own-of u.config u.unit past known) mine in
    let inside : c.within.result ≡ is_within (unit_of u.config u.unit).blocks c.args.ranges.now = c.within.ensures ∙ ap (λ (t : UnitConfig). is_within t.blocks c.args.ranges.now) c.unit.ensures.told in
    let made : c.next_serial-serial.result ≡ length (tokens past) = c.next_serial-serial.ensures.count ∙ sym (length-map u.tables.tokens.tokens (kept_with (rod_shown g.B.Pins.number (g.B.Blocks.block_length u.tables.blocks) (g.B.Blocks.shown u.tables.blocks)))) ∙ ap length a.tokens.tokens ∙ length-map (tokens past) (kept_of (unit_of u.config u.unit)) in
    rw (c.answered-then-serial-ge-SERIALS.ensures, c.insufficient_resources.ensures)
    (λ at free. populate-many u.config u.unit past c.args.actor at c.args.id c.args.timeout c.args.ranges.now free (sym told ∙ c.if-runs.false) (sym inside ∙ c.if-not-within.false) (omega (arith, made)))

pub returns : goal.returns
returns g c = λ h a.
    let u = c.args.self.now in
    let past = past_of u.config u.unit h in
    let known = known-of u.config u.unit h a.record_is in
    let mine = asker c.args.self.now.unit c.args.actor (Act.Populate c.args.id c.args.timeout c.args.ranges.now) c.requires.asked refl in
    let told = c.runs.ensures.busy ∙ ap (λ k. jobs.is_busy k u.tables.jobs) c.token_key-key.ensures ∙ ap (jobs.is_busy (key_of c.args.actor OfToken c.args.id)) a.jobs
    ∙ busy-is u.config u.unit past c.args.actor OfToken c.args.id known.is (own-of u.config u.unit past known) mine in
    let inside : c.within.result ≡ is_within (unit_of u.config u.unit).blocks c.args.ranges.now = c.within.ensures ∙ ap (λ (t : UnitConfig). is_within t.blocks c.args.ranges.now) c.unit.ensures.told in
    let within : is_within (unit_of u.config u.unit).blocks c.args.ranges.now ≡ true = sym inside ∙ c.if-not-within.false in
    let made : c.next_serial-serial.result ≡ length (tokens past) = c.next_serial-serial.ensures.count ∙ sym (length-map u.tables.tokens.tokens (kept_with (rod_shown g.B.Pins.number (g.B.Blocks.block_length u.tables.blocks) (g.B.Blocks.shown u.tables.blocks)))) ∙ ap length a.tokens.tokens ∙ length-map (tokens past) (kept_of (unit_of u.config u.unit)) in
    rw (made, c.total-blocks.ensures.total, c.in_ok-ranges.ensures, c.token_key-key.ensures)
    (λ at free. populate-made u.config u.unit past c.args.actor at c.args.id c.args.timeout c.args.ranges.now known mine free (sym told ∙ c.if-runs.false) within (omega (arith, made)) c.requires.limits)
