use Rattle.cm_base.specs.Units.{unit_of}
use Rattle.cm_history.specs.History.{past_of}
use Rattle.unit_core.specs.inner.Agreeing.{TablesAgree}
use Rattle.unit_core.proofs.Steps.{known-of}
use Rattle.unit_core.proofs.Standing.{own-drop}
use Rattle.rod_store.specs.Pinning.{rods_of}
use Rattle.unit_core.proofs.unit.UnitOver.history.Goals as goal

pub returns-clause-own : goal.returns-clause-own
returns-clause-own g c =
    let u = c.self.inside in
    let o = u.core in
    let w = c.self.invariant.0 in
    let t : TablesAgree o.config o.unit (g.B.Blocks.blocks o.tables.blocks) (g.B.Blocks.block_length o.tables.blocks) (g.B.Blocks.holds o.tables.blocks) (rods_of g.B.Pins.number (g.B.Blocks.block_length o.tables.blocks) (g.B.Blocks.shown o.tables.blocks) o.tables.tokens) o.tables.jobs o.tables.reservations o.last_stamp o.moment w = c.self.invariant.1 in
    let r = c.self.invariant.2 in
    let past = past_of o.config o.unit w in
    let known = known-of o.config o.unit w t.record_is in
    let limit = unit_of o.config o.unit in
    rw (← c.self.view_is) (own-drop o.unit u.folded w u.history.entries t.record_is.own r.keeps)
