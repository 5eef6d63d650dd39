use Rattle.std.proofs.Common.{◌≡◌, ◌+◌, ℕ, List, length, true, false, Bool, ◌∙◌, ap, sym, subst}
use Rattle.cm_base.specs.Units.{unit_of}
use Rattle.cm_history.specs.Folding.{StandsFor}
use Rattle.cm_history.specs.History.{past_of}
use Rattle.unit_core.proofs.AnswersAs.{answers_as}
use Rattle.unit_core.specs.inner.Agreeing.{TablesAgree}
use Rattle.unit_core.specs.inner.Shown.{image_shown}
use Rattle.unit_core.proofs.Standing.{stands-own}
use Rattle.unit_core.proofs.Steps.{known-of}
use Rattle.cm_base.specs.Configuration.{Configuration}
use Rattle.cm_history.specs.declared.act.Actor.{Actor}
use Rattle.cm_history.specs.declared.act.Entry.{Entry}
use Rattle.cm_history.specs.Answers.{is_busy}
use Rattle.cm_history.specs.Deeds.{Deed}
use Rattle.cm_history.specs.Operations.{Form, OfToken, OfCopy}
use Rattle.copy_jobs.specs.declared.key.Key.{Key}
use Rattle.copy_jobs.specs.Jobs as jobs
use Rattle.unit_core.specs.UnitState.{UnitState}
use Rattle.unit_core.specs.Acting.{is_busy_at}
use Rattle.unit_core.specs.Keys.{key_of}
use Rattle.unit_core.specs.inner.Tables.{jobs_of}
use Rattle.unit_core.proofs.Jobs.{IsNexus, busy-is}
use Rattle.unit_core.proofs.Pumping.{pump-idle}
use Rattle.unit_core.proofs.Planned.{IsKnown, own-of}
use Rattle.rod_store.specs.Pinning.{rods_of}
use Rattle.unit_core.specs.Versions.{shares_table}
use Rattle.unit_core.specs.inner.Seen.{shares_shown}
use Rattle.unit_core.proofs.unit.UnitOver.runs.Goals as goal

busy : (config : Configuration) (unit : ℕ) (past : List Deed) (s : UnitState) (h : List Entry) (actor : Actor) (id : ℕ) → IsKnown config unit past → IsNexus actor
    → ((form : Form) → is_busy (past_of s.config s.unit h) actor form id ≡ is_busy past actor form id) → (copy : Bool)
    → jobs.is_busy (record (key_of actor OfToken id) { copy = copy }) (jobs_of past) ≡ is_busy_at s h actor copy id
busy config unit past s h actor id known mine same true = busy-is config unit past actor OfCopy id known.is (own-of config unit past known) mine ∙ sym (same OfCopy)
busy config unit past s h actor id known mine same false = busy-is config unit past actor OfToken id known.is (own-of config unit past known) mine ∙ sym (same OfToken)

idle : (config : Configuration) (unit : ℕ) (past : List Deed) (s : UnitState) (h : List Entry) (pump id : ℕ) → IsKnown config unit past
    → ((form : Form) → is_busy (past_of s.config s.unit h) (Actor.Pump pump) form id ≡ is_busy past (Actor.Pump pump) form id) → (copy : Bool) → false ≡ is_busy_at s h (Actor.Pump pump) copy id
idle config unit past s h pump id known same true = sym (same OfCopy ∙ pump-idle config unit pump OfCopy id past known)
idle config unit past s h pump id known same false = sym (same OfToken ∙ pump-idle config unit pump OfToken id past known)

pub returns-in-Nexus : goal.returns-in-Nexus
returns-in-Nexus g c = λ h s.
    let u = c.self.inside in
    let o = u.core in
    let w = c.self.invariant.0 in
    let t : TablesAgree o.config o.unit (g.B.Blocks.blocks o.tables.blocks) (g.B.Blocks.block_length o.tables.blocks) (g.B.Blocks.holds o.tables.blocks) (rods_of g.B.Pins.number (g.B.Blocks.block_length o.tables.blocks) (g.B.Blocks.shown o.tables.blocks) o.tables.tokens) o.tables.jobs o.tables.reservations o.last_stamp o.moment w = c.self.invariant.1 in
    let r = c.self.invariant.2 in
    let past = past_of o.config o.unit w in
    let known = known-of o.config o.unit w t.record_is in
    let limit = unit_of o.config o.unit in
    let own = stands-own o.config o.unit u.history.entries u.folded u.history.spare u.payload (g.B.Blocks.blocks o.tables.blocks) (g.B.Blocks.block_length o.tables.blocks) (g.B.Blocks.holds o.tables.blocks) (rods_of g.B.Pins.number (g.B.Blocks.block_length o.tables.blocks) (g.B.Blocks.shown o.tables.blocks) o.tables.tokens) o.tables.jobs o.tables.reservations o.last_stamp o.moment w t r in
    let shown = image_shown o.moment o.last_stamp (u.folded + length u.history.entries) (g.B.Blocks.blocks o.tables.blocks) (g.B.Blocks.holds o.tables.blocks) (rods_of g.B.Pins.number (g.B.Blocks.block_length o.tables.blocks) (g.B.Blocks.shown o.tables.blocks) o.tables.tokens).tokens o.tables.jobs o.tables.reservations in
    let stood : StandsFor o.config o.unit shown u.history.entries u.folded h = rw (← c.self.view_is) at (answers_as c.args.self.now h s) in
    let p = c.standing_law.ensures shown u.history.entries u.folded h w stood own in
    let seen : UnitState = record { config = o.config; unit = o.unit; kept = u.history.entries; folded = u.folded; image = shown; shares = shares_table (g.B.Blocks.blocks o.tables.blocks) (length o.tables.tokens.tokens) (shares_shown g.B.Pins.number (g.B.SharedVersions.shares o.tables.blocks) o.tables.tokens.tokens) } in
    let mine : IsNexus c.args.actor = subst IsNexus (sym c.in-Nexus.is) tt in
    rw (← c.self.view_is)
    (c.runs.ensures.busy ∙ ap (λ (k : Key). jobs.is_busy (record k { copy = c.args.copy }) o.tables.jobs) c.token_key-key.ensures
    ∙ ap (jobs.is_busy (record (key_of c.args.actor OfToken c.args.id) { copy = c.args.copy })) t.jobs
    ∙ busy o.config o.unit past seen h c.args.actor c.args.id known mine (λ form. p.busy c.args.actor form c.args.id) c.args.copy)

pub returns-in-Pump : goal.returns-in-Pump
returns-in-Pump g c = λ h s.
    let u = c.self.inside in
    let o = u.core in
    let w = c.self.invariant.0 in
    let t : TablesAgree o.config o.unit (g.B.Blocks.blocks o.tables.blocks) (g.B.Blocks.block_length o.tables.blocks) (g.B.Blocks.holds o.tables.blocks) (rods_of g.B.Pins.number (g.B.Blocks.block_length o.tables.blocks) (g.B.Blocks.shown o.tables.blocks) o.tables.tokens) o.tables.jobs o.tables.reservations o.last_stamp o.moment w = c.self.invariant.1 in
    let r = c.self.invariant.2 in
    let past = past_of o.config o.unit w in
    let known = known-of o.config o.unit w t.record_is in
    let limit = unit_of o.config o.unit in
    let own = stands-own o.config o.unit u.history.entries u.folded u.history.spare u.payload (g.B.Blocks.blocks o.tables.blocks) (g.B.Blocks.block_length o.tables.blocks) (g.B.Blocks.holds o.tables.blocks) (rods_of g.B.Pins.number (g.B.Blocks.block_length o.tables.blocks) (g.B.Blocks.shown o.tables.blocks) o.tables.tokens) o.tables.jobs o.tables.reservations o.last_stamp o.moment w t r in
    let shown = image_shown o.moment o.last_stamp (u.folded + length u.history.entries) (g.B.Blocks.blocks o.tables.blocks) (g.B.Blocks.holds o.tables.blocks) (rods_of g.B.Pins.number (g.B.Blocks.block_length o.tables.blocks) (g.B.Blocks.shown o.tables.blocks) o.tables.tokens).tokens o.tables.jobs o.tables.reservations in
    let stood : StandsFor o.config o.unit shown u.history.entries u.folded h = rw (← c.self.view_is) at (answers_as c.args.self.now h s) in
    let p = c.standing_law.ensures shown u.history.entries u.folded h w stood own in
    let seen : UnitState = record { config = o.config; unit = o.unit; kept = u.history.entries; folded = u.folded; image = shown; shares = shares_table (g.B.Blocks.blocks o.tables.blocks) (length o.tables.tokens.tokens) (shares_shown g.B.Pins.number (g.B.SharedVersions.shares o.tables.blocks) o.tables.tokens.tokens) } in
    rw (← c.self.view_is, c.in-Pump.is) (idle o.config o.unit past seen h _ c.args.id known (λ form. p.busy _ form c.args.id) c.args.copy)
