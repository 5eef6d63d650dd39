use Rattle.std.proofs.Common.{◌≡◌, ◌∙◌, ◌+◌, length, ap, subst, sym}
use Rattle.cm_base.specs.Units.{unit_of}
use Rattle.cm_history.specs.History.{past_of}
use Rattle.cm_history.specs.Tokens.{tokens}
use Rattle.lba_ranges.specs.Denoted.{row}
use Rattle.cm_history.specs.Folding.{StandsFor}
use Rattle.rod_store.specs.Pinning.{rods_of, rod_shown}
use Rattle.unit_core.specs.UnitState.{UnitState, Stands, shared_by}
use Rattle.unit_core.proofs.AnswersAs.{answers_as}
use Rattle.unit_core.specs.Versions.{needed, seen_versions, shares_table, sights, writer_seen}
use Rattle.unit_core.specs.inner.Agreeing.{TablesAgree}
use Rattle.unit_core.specs.inner.Seen.{shares_shown}
use Rattle.unit_core.specs.inner.Shown.{image_shown}
use Rattle.unit_core.proofs.AsMany.{as-many-needed}
use Rattle.unit_core.proofs.Needed.{needed-kept}
use Rattle.unit_core.proofs.WriterSteps.{shared-alike, table-are}
use Rattle.unit_core.proofs.Standing.{stands-own}
use Rattle.unit_core.proofs.unit.UnitOver.stored.Goals as goal

pub returns : goal.returns
returns g c = λ h s.
    let u = c.self.inside in
    let o = u.core in
    let w = c.self.invariant.0 in
    let t : TablesAgree o.config o.unit (g.B.Blocks.blocks o.tables.blocks) (g.B.Blocks.block_length o.tables.blocks) (g.B.Blocks.holds o.tables.blocks) (rods_of g.B.Pins.number (g.B.Blocks.block_length o.tables.blocks) (g.B.Blocks.shown o.tables.blocks) o.tables.tokens) o.tables.jobs o.tables.reservations o.last_stamp o.moment w = c.self.invariant.1 in
    let r = c.self.invariant.2 in
    let past = past_of o.config o.unit w in
    let limit = unit_of o.config o.unit in
    let own = stands-own o.config o.unit u.history.entries u.folded u.history.spare u.payload (g.B.Blocks.blocks o.tables.blocks) (g.B.Blocks.block_length o.tables.blocks) (g.B.Blocks.holds o.tables.blocks) (rods_of g.B.Pins.number (g.B.Blocks.block_length o.tables.blocks) (g.B.Blocks.shown o.tables.blocks) o.tables.tokens) o.tables.jobs o.tables.reservations o.last_stamp o.moment w t r in
    let shown = image_shown o.moment o.last_stamp (u.folded + length u.history.entries) (g.B.Blocks.blocks o.tables.blocks) (g.B.Blocks.holds o.tables.blocks) (rods_of g.B.Pins.number (g.B.Blocks.block_length o.tables.blocks) (g.B.Blocks.shown o.tables.blocks) o.tables.tokens).tokens o.tables.jobs o.tables.reservations in
    let stood : StandsFor o.config o.unit shown u.history.entries u.folded h = rw (← c.self.view_is) at (answers_as c.args.self.now h s) in
    let are = c.self.invariant.4 in
    let table = table-are g.B.Pins.number (g.B.Blocks.blocks o.tables.blocks) limit.blocks (g.B.Blocks.pinned o.tables.blocks) (g.B.Blocks.written_by o.tables.blocks) o.tables.tokens.tokens past
    (rod_shown g.B.Pins.number (g.B.Blocks.block_length o.tables.blocks) (g.B.Blocks.shown o.tables.blocks)) limit c.self.invariant.3 c.self.invariant.4 (g.B.SharedVersions.shares o.tables.blocks)
    (g.met.B.SharedVersions.told o.tables.blocks c.self.invariant.4.writers c.self.invariant.4.written) t.blocks.count t.tokens.tokens in
    let its : shared_by limit.blocks (past_of o.config o.unit h) ≡ shares_table (g.B.Blocks.blocks o.tables.blocks) (length o.tables.tokens.tokens) (shares_shown g.B.Pins.number (g.B.SharedVersions.shares o.tables.blocks) o.tables.tokens.tokens) =
    (subst (λ (v : UnitState). Stands v h) (sym c.self.view_is) s).versions in
    let alike = shared-alike limit past (past_of o.config o.unit h) (own.image ∙ sym stood.image) (table ∙ sym its) in
    let kept = needed-kept g.B.Pins.number (g.B.Blocks.blocks o.tables.blocks) (g.B.Blocks.pinned o.tables.blocks) (g.B.Blocks.written_by o.tables.blocks) o.tables.tokens.tokens past c.self.invariant.3 are limit.blocks t.blocks.count in
    let count : c.stored.result ≡ length (needed limit past) = c.stored.ensures are.writers (seen_versions (writer_seen past) (row 0 limit.blocks) (sights (length (tokens past)))) are.written kept in
    let now = ap (λ (v : UnitState). length (needed (unit_of v.config v.unit) (past_of v.config v.unit h))) c.self.view_is in
    count ∙ as-many-needed limit past (past_of o.config o.unit h) alike ∙ now
