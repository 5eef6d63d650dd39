use Rattle.std.proofs.Common.{◌≡◌, ◌<◌, ◌+◌, ◌-◌, ℕ, List, length, true, false, ◌^◌, ◌∙◌, refl, sym, arith}
use Rattle.std.specs.Prelude.{max}
use Rattle.cm_base.specs.Units.{unit_of}
use Rattle.cm_history.specs.History.{past_of}
use Rattle.unit_core.specs.UnitState.{Stands}
use Rattle.unit_core.specs.inner.Agreeing.{TablesAgree}
use Rattle.unit_core.specs.inner.Shown.{image_shown}
use Rattle.unit_core.proofs.Standing.{stands-own}
use Rattle.unit_core.proofs.Steps.{known-of}
use Rattle.cm_history.specs.declared.act.Act.{Act}
use Rattle.cm_history.specs.declared.act.Actor.{Actor}
use Rattle.cm_history.specs.declared.act.Entry.{Entry}
use Rattle.cm_history.specs.declared.refused.ActRefused.{ActRefused}
use Rattle.unit_core.specs.UnitState.{UnitState}
use Rattle.unit_core.specs.Acting.{past, serves_operation, ends_operation_at}
use Rattle.unit_core.proofs.Planned.{ends-serves}
use Rattle.rod_store.specs.Pinning.{rods_of, rod_shown}
use Rattle.unit_core.specs.Versions.{shares_table}
use Rattle.unit_core.specs.inner.Seen.{shares_shown}
use Rattle.unit_core.proofs.WriterSteps.{stands-with, table-are}
use Rattle.unit_core.proofs.unit.UnitOver.finish.Goals as goal

never : (s : UnitState) (entries : List Entry) (actor : Actor) (act : Act) (stamp : ℕ) (e : ActRefused) → ends_operation_at s entries actor act ≡ true → max stamp s.image.last_stamp < 2 ^ 64 - 1
    → (e ≡ ActRefused.Full → serves_operation s entries actor act ≡ true → max stamp s.image.last_stamp ≡ 2 ^ 64 - 1)
    → (e ≡ ActRefused.OutOfMemory → ends_operation_at s entries actor act ≡ false) → ⊥
never s entries actor act stamp ActRefused.Full ends low serves out = let last = serves refl (ends-serves (past s entries) actor act ends) in omega (arith, last, low)
never s entries actor act stamp ActRefused.OutOfMemory ends low serves out = let no = sym ends ∙ out refl in cc

pub unreachable-requires : goal.unreachable-requires
unreachable-requires g c =
    let u = c.self.inside in
    let o = u.core in
    let w = c.self.invariant.0 in
    let t : TablesAgree o.config o.unit (g.B.Blocks.blocks o.tables.blocks) (g.B.Blocks.block_length o.tables.blocks) (g.B.Blocks.holds o.tables.blocks) (rods_of g.B.Pins.number (g.B.Blocks.block_length o.tables.blocks) (g.B.Blocks.shown o.tables.blocks) o.tables.tokens) o.tables.jobs o.tables.reservations o.last_stamp o.moment w = c.self.invariant.1 in
    let r = c.self.invariant.2 in
    let past = past_of o.config o.unit w in
    let known = known-of o.config o.unit w t.record_is in
    let limit = unit_of o.config o.unit in
    let own = stands-own o.config o.unit u.history.entries u.folded u.history.spare u.payload (g.B.Blocks.blocks o.tables.blocks) (g.B.Blocks.block_length o.tables.blocks) (g.B.Blocks.holds o.tables.blocks) (rods_of g.B.Pins.number (g.B.Blocks.block_length o.tables.blocks) (g.B.Blocks.shown o.tables.blocks) o.tables.tokens) o.tables.jobs o.tables.reservations o.last_stamp o.moment w t r in
    let table = table-are g.B.Pins.number (g.B.Blocks.blocks o.tables.blocks) limit.blocks (g.B.Blocks.pinned o.tables.blocks) (g.B.Blocks.written_by o.tables.blocks) o.tables.tokens.tokens past
    (rod_shown g.B.Pins.number (g.B.Blocks.block_length o.tables.blocks) (g.B.Blocks.shown o.tables.blocks)) limit c.self.invariant.3 c.self.invariant.4 (g.B.SharedVersions.shares o.tables.blocks)
    (g.met.B.SharedVersions.told o.tables.blocks c.self.invariant.4.writers c.self.invariant.4.written) t.blocks.count t.tokens.tokens in
    let state : UnitState = record {
      config = o.config;
      unit = o.unit;
      kept = u.history.entries;
      folded = u.folded;
      image = image_shown o.moment o.last_stamp (u.folded + length u.history.entries) (g.B.Blocks.blocks o.tables.blocks) (g.B.Blocks.holds o.tables.blocks) (rods_of g.B.Pins.number (g.B.Blocks.block_length o.tables.blocks) (g.B.Blocks.shown o.tables.blocks) o.tables.tokens).tokens o.tables.jobs o.tables.reservations;
      shares = shares_table (g.B.Blocks.blocks o.tables.blocks) (length o.tables.tokens.tokens) (shares_shown g.B.Pins.number (g.B.SharedVersions.shares o.tables.blocks) o.tables.tokens.tokens);
    } in
    let standing : Stands c.args.self.now w = rw (← c.self.view_is) (stands-with state w own table) in
    never c.args.self.now w c.args.actor c.args.act c.args.stamp c.in-Err.field-0 (c.requires.runs w standing) c.requires.stamps
    (λ e served. c.in-Err.ensures.serves e w standing served) (λ e. c.in-Err.ensures.ends e w standing)
