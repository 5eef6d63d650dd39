use Rattle.std.proofs.Common.{[], ap}
use Rattle.std.specs.Prelude.{map}
use Rattle.cm_base.specs.Units.{unit_of}
use Rattle.unit_core.specs.inner.Agreeing.{TablesAgree}
use Rattle.unit_core.proofs.Standing.{stands-own}
use Rattle.unit_core.proofs.Steps.{tables-start, record-start}
use Rattle.rod_store.specs.Pinning.{rods_of, rod_shown}
use Rattle.rod_store.specs.Kept.{kept_with}
use Rattle.unit_core.proofs.WriterSteps.{table-are, writers-start}
use Rattle.unit_core.proofs.unit.UnitOver.new.Goals as goal

pub invariant_of-result : goal.invariant_of-result
invariant_of-result g c =
    let k = c.in_ok-tables.tables in
    let t : TablesAgree c.args.config.now c.args.unit (g.B.Blocks.blocks k.blocks) (g.B.Blocks.block_length k.blocks) (g.B.Blocks.holds k.blocks) (rods_of g.B.Pins.number (g.B.Blocks.block_length k.blocks) (g.B.Blocks.shown k.blocks) k.tokens) k.jobs k.reservations 0 0 [] =
    tables-start c.args.config.now c.args.unit (g.B.Blocks.blocks k.blocks) (g.B.Blocks.block_length k.blocks) (g.B.Blocks.holds k.blocks) (rods_of g.B.Pins.number (g.B.Blocks.block_length k.blocks) (g.B.Blocks.shown k.blocks) k.tokens) k.jobs k.reservations
    c.requires c.in_ok-tables.ensures.limits c.in_ok-tables.ensures.blocks c.in_ok-tables.ensures.length c.in_ok-tables.ensures.unmapped c.in_ok-tables.ensures.unit (ap (map (kept_with (rod_shown g.B.Pins.number (g.B.Blocks.block_length k.blocks) (g.B.Blocks.shown k.blocks)))) c.in_ok-tables.ensures.tokens) c.in_ok-tables.ensures.jobs c.in_ok-tables.ensures.reservations in
    rw (c.in_ok-own.ensures, c.empty.ensures) ([], t, record-start c.args.config.now c.args.unit, c.in_ok-tables.ensures.pinned, writers-start g.B.Pins.number (g.B.Blocks.written_by k.blocks) k.tokens.tokens c.in_ok-tables.ensures.tokens c.in_ok-tables.ensures.written)

pub returns-clause-stands : goal.returns-clause-stands
returns-clause-stands g c =
    let k = c.in_ok-tables.tables in
    let t : TablesAgree c.args.config.now c.args.unit (g.B.Blocks.blocks k.blocks) (g.B.Blocks.block_length k.blocks) (g.B.Blocks.holds k.blocks) (rods_of g.B.Pins.number (g.B.Blocks.block_length k.blocks) (g.B.Blocks.shown k.blocks) k.tokens) k.jobs k.reservations 0 0 [] =
    tables-start c.args.config.now c.args.unit (g.B.Blocks.blocks k.blocks) (g.B.Blocks.block_length k.blocks) (g.B.Blocks.holds k.blocks) (rods_of g.B.Pins.number (g.B.Blocks.block_length k.blocks) (g.B.Blocks.shown k.blocks) k.tokens) k.jobs k.reservations
    c.requires c.in_ok-tables.ensures.limits c.in_ok-tables.ensures.blocks c.in_ok-tables.ensures.length c.in_ok-tables.ensures.unmapped c.in_ok-tables.ensures.unit (ap (map (kept_with (rod_shown g.B.Pins.number (g.B.Blocks.block_length k.blocks) (g.B.Blocks.shown k.blocks)))) c.in_ok-tables.ensures.tokens) c.in_ok-tables.ensures.jobs c.in_ok-tables.ensures.reservations in
    let own = stands-own c.args.config.now c.args.unit [] 0 0 0 (g.B.Blocks.blocks k.blocks) (g.B.Blocks.block_length k.blocks) (g.B.Blocks.holds k.blocks) (rods_of g.B.Pins.number (g.B.Blocks.block_length k.blocks) (g.B.Blocks.shown k.blocks) k.tokens) k.jobs k.reservations 0 0 [] t (record-start c.args.config.now c.args.unit) in
    let are = writers-start g.B.Pins.number (g.B.Blocks.written_by k.blocks) k.tokens.tokens c.in_ok-tables.ensures.tokens c.in_ok-tables.ensures.written in
    let table = table-are g.B.Pins.number (g.B.Blocks.blocks k.blocks) (unit_of c.args.config.now c.args.unit).blocks (g.B.Blocks.pinned k.blocks) (g.B.Blocks.written_by k.blocks) k.tokens.tokens []
    (rod_shown g.B.Pins.number (g.B.Blocks.block_length k.blocks) (g.B.Blocks.shown k.blocks)) (unit_of c.args.config.now c.args.unit) c.in_ok-tables.ensures.pinned are (g.B.SharedVersions.shares k.blocks)
    (g.met.B.SharedVersions.told k.blocks are.writers are.written) t.blocks.count t.tokens.tokens in
    rw (c.in_ok-own.ensures, c.empty.ensures) (record { own = own.own; asked = own.asked; image = own.image; keeps = own.keeps; few = own.few; versions = table })
