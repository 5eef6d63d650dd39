use Rattle.std.proofs.Common.{◌≡◌, ◌^◌, ◌≤◌, ◌<◌, ◌+◌, ◌-◌, length, ◌∙◌, ap, sym, arith}
use Rattle.std.specs.Prelude.{max}
use Rattle.cm_base.specs.Units.{unit_of}
use Rattle.cm_history.specs.Folding.{StandsFor}
use Rattle.cm_history.specs.History.{past_of}
use Rattle.unit_core.proofs.AnswersAs.{answers_as}
use Rattle.unit_core.specs.inner.Agreeing.{TablesAgree}
use Rattle.unit_core.specs.inner.Shown.{image_shown}
use Rattle.unit_core.proofs.Standing.{stands-own}
use Rattle.unit_core.proofs.Steps.{known-of}
use Rattle.cm_base.specs.declared.config.UnitConfig.{UnitConfig}
use Rattle.copy_jobs.specs.Jobs as jobs
use Rattle.cm_history.specs.Deeds.{last_stamp}
use Rattle.cm_history.specs.Room.{kept_free, need, payload, bytes_in}
use Rattle.unit_core.specs.inner.Agreeing.{payload_in}
use Rattle.unit_core.proofs.Steps.{length-kept, payload-kept}
use Rattle.unit_core.proofs.Reserving.{reserved-is}
use Rattle.unit_core.proofs.Rooms.{full-stamps, full-entries, full-bytes}
use Rattle.rod_store.specs.Pinning.{rods_of}
use Rattle.unit_core.proofs.unit.UnitOver.is_full.Goals as goal

pub need-requires-clause-known : goal.need-requires-clause-known
need-requires-clause-known g c = (c.self.invariant.0, c.self.invariant.1)

pub overflow_add-kept : goal.overflow_add-kept
overflow_add-kept g c =
    let u = c.self.inside in
    let o = u.core in
    let w = c.self.invariant.0 in
    let t : TablesAgree o.config o.unit (g.B.Blocks.blocks o.tables.blocks) (g.B.Blocks.block_length o.tables.blocks) (g.B.Blocks.holds o.tables.blocks) (rods_of g.B.Pins.number (g.B.Blocks.block_length o.tables.blocks) (g.B.Blocks.shown o.tables.blocks) o.tables.tokens) o.tables.jobs o.tables.reservations o.last_stamp o.moment w = c.self.invariant.1 in
    let r = c.self.invariant.2 in
    let past = past_of o.config o.unit w in
    let known = known-of o.config o.unit w t.record_is in
    let limit = unit_of o.config o.unit in
    let free : c.reserved.result ≡ kept_free past = c.reserved.ensures.reserved ∙ ap jobs.reserved t.jobs ∙ reserved-is o.config o.unit past known.is in
    let few = t.record_is.limits.entries.1 in
    omega (arith, c.len.ensures, free, few, r.room)

pub overflow_add-kept-2 : goal.overflow_add-kept-2
overflow_add-kept-2 g c =
    let u = c.self.inside in
    let o = u.core in
    let w = c.self.invariant.0 in
    let t : TablesAgree o.config o.unit (g.B.Blocks.blocks o.tables.blocks) (g.B.Blocks.block_length o.tables.blocks) (g.B.Blocks.holds o.tables.blocks) (rods_of g.B.Pins.number (g.B.Blocks.block_length o.tables.blocks) (g.B.Blocks.shown o.tables.blocks) o.tables.tokens) o.tables.jobs o.tables.reservations o.last_stamp o.moment w = c.self.invariant.1 in
    let r = c.self.invariant.2 in
    let past = past_of o.config o.unit w in
    let known = known-of o.config o.unit w t.record_is in
    let limit = unit_of o.config o.unit in
    let free : c.reserved.result ≡ kept_free past = c.reserved.ensures.reserved ∙ ap jobs.reserved t.jobs ∙ reserved-is o.config o.unit past known.is in
    let few = t.record_is.limits.entries.1 in
    omega (arith, c.len.ensures, free, few, r.room, c.need.ensures.few)

pub returns-then-max : goal.returns-then-max
returns-then-max g c = λ h s.
    let u = c.self.inside in
    let o = u.core in
    let w = c.self.invariant.0 in
    let t : TablesAgree o.config o.unit (g.B.Blocks.blocks o.tables.blocks) (g.B.Blocks.block_length o.tables.blocks) (g.B.Blocks.holds o.tables.blocks) (rods_of g.B.Pins.number (g.B.Blocks.block_length o.tables.blocks) (g.B.Blocks.shown o.tables.blocks) o.tables.tokens) o.tables.jobs o.tables.reservations o.last_stamp o.moment w = c.self.invariant.1 in
    let r = c.self.invariant.2 in
    let past = past_of o.config o.unit w in
    let known = known-of o.config o.unit w t.record_is in
    let limit = unit_of o.config o.unit in
    let own = stands-own o.config o.unit u.history.entries u.folded u.history.spare u.payload (g.B.Blocks.blocks o.tables.blocks) (g.B.Blocks.block_length o.tables.blocks) (g.B.Blocks.holds o.tables.blocks) (rods_of g.B.Pins.number (g.B.Blocks.block_length o.tables.blocks) (g.B.Blocks.shown o.tables.blocks) o.tables.tokens) o.tables.jobs o.tables.reservations o.last_stamp o.moment w t r in
    let shown = image_shown o.moment o.last_stamp (u.folded + length u.history.entries) (g.B.Blocks.blocks o.tables.blocks) (g.B.Blocks.holds o.tables.blocks) (rods_of g.B.Pins.number (g.B.Blocks.block_length o.tables.blocks) (g.B.Blocks.shown o.tables.blocks) o.tables.tokens).tokens o.tables.jobs o.tables.reservations in
    let stood : StandsFor o.config o.unit shown u.history.entries u.folded h = rw (← c.self.view_is) at (answers_as c.args.self.now h s) in
    let p = c.standing_law.ensures shown u.history.entries u.folded h w stood own in
    let count : length past - u.folded ≡ length u.history.entries = length-kept o.config o.unit u.history.entries u.folded w t.record_is.own r.keeps in
    let bytes : payload u.folded past ≡ payload_in u.history.entries = payload-kept o.config o.unit u.history.entries u.folded w t.record_is.own r.keeps in
    let within : payload u.folded past ≤ limit.payload = omega (arith, bytes, r.bytes) in
    let last : max c.args.stamp (last_stamp past) ≡ 2 ^ 64 - 1 = ap (max c.args.stamp) (sym t.stamp) ∙ sym c.max.ensures ∙ c.if-max.true in
    rw (← c.self.view_is) (sym (full-stamps limit u.folded past c.args.actor c.args.stamp c.args.act.now within last) ∙ sym (p.full c.args.actor c.args.stamp c.args.act.now))

pub returns-then-kept-need : goal.returns-then-kept-need
returns-then-kept-need g c = λ h s.
    let u = c.self.inside in
    let o = u.core in
    let w = c.self.invariant.0 in
    let t : TablesAgree o.config o.unit (g.B.Blocks.blocks o.tables.blocks) (g.B.Blocks.block_length o.tables.blocks) (g.B.Blocks.holds o.tables.blocks) (rods_of g.B.Pins.number (g.B.Blocks.block_length o.tables.blocks) (g.B.Blocks.shown o.tables.blocks) o.tables.tokens) o.tables.jobs o.tables.reservations o.last_stamp o.moment w = c.self.invariant.1 in
    let r = c.self.invariant.2 in
    let past = past_of o.config o.unit w in
    let known = known-of o.config o.unit w t.record_is in
    let limit = unit_of o.config o.unit in
    let own = stands-own o.config o.unit u.history.entries u.folded u.history.spare u.payload (g.B.Blocks.blocks o.tables.blocks) (g.B.Blocks.block_length o.tables.blocks) (g.B.Blocks.holds o.tables.blocks) (rods_of g.B.Pins.number (g.B.Blocks.block_length o.tables.blocks) (g.B.Blocks.shown o.tables.blocks) o.tables.tokens) o.tables.jobs o.tables.reservations o.last_stamp o.moment w t r in
    let shown = image_shown o.moment o.last_stamp (u.folded + length u.history.entries) (g.B.Blocks.blocks o.tables.blocks) (g.B.Blocks.holds o.tables.blocks) (rods_of g.B.Pins.number (g.B.Blocks.block_length o.tables.blocks) (g.B.Blocks.shown o.tables.blocks) o.tables.tokens).tokens o.tables.jobs o.tables.reservations in
    let stood : StandsFor o.config o.unit shown u.history.entries u.folded h = rw (← c.self.view_is) at (answers_as c.args.self.now h s) in
    let p = c.standing_law.ensures shown u.history.entries u.folded h w stood own in
    let count : length past - u.folded ≡ length u.history.entries = length-kept o.config o.unit u.history.entries u.folded w t.record_is.own r.keeps in
    let bytes : payload u.folded past ≡ payload_in u.history.entries = payload-kept o.config o.unit u.history.entries u.folded w t.record_is.own r.keeps in
    let within : payload u.folded past ≤ limit.payload = omega (arith, bytes, r.bytes) in
    let free : c.reserved.result ≡ kept_free past = c.reserved.ensures.reserved ∙ ap jobs.reserved t.jobs ∙ reserved-is o.config o.unit past known.is in
    let needed : c.need.result ≡ need past c.args.actor c.args.act.now = c.need.ensures.need w t in
    let most : c.from.result ≡ limit.entries = c.from.ensures ∙ ap (λ (v : UnitConfig). v.entries) c.unit-unit.ensures.told in
    let more : limit.entries < length past - u.folded + kept_free past + need past c.args.actor c.args.act.now = omega (arith, c.len.ensures, count, free, needed, most) in
    rw (← c.self.view_is) (sym (full-entries limit u.folded past c.args.actor c.args.stamp c.args.act.now within more) ∙ sym (p.full c.args.actor c.args.stamp c.args.act.now))

pub returns : goal.returns
returns g c = λ h s.
    let u = c.self.inside in
    let o = u.core in
    let w = c.self.invariant.0 in
    let t : TablesAgree o.config o.unit (g.B.Blocks.blocks o.tables.blocks) (g.B.Blocks.block_length o.tables.blocks) (g.B.Blocks.holds o.tables.blocks) (rods_of g.B.Pins.number (g.B.Blocks.block_length o.tables.blocks) (g.B.Blocks.shown o.tables.blocks) o.tables.tokens) o.tables.jobs o.tables.reservations o.last_stamp o.moment w = c.self.invariant.1 in
    let r = c.self.invariant.2 in
    let past = past_of o.config o.unit w in
    let known = known-of o.config o.unit w t.record_is in
    let limit = unit_of o.config o.unit in
    let own = stands-own o.config o.unit u.history.entries u.folded u.history.spare u.payload (g.B.Blocks.blocks o.tables.blocks) (g.B.Blocks.block_length o.tables.blocks) (g.B.Blocks.holds o.tables.blocks) (rods_of g.B.Pins.number (g.B.Blocks.block_length o.tables.blocks) (g.B.Blocks.shown o.tables.blocks) o.tables.tokens) o.tables.jobs o.tables.reservations o.last_stamp o.moment w t r in
    let shown = image_shown o.moment o.last_stamp (u.folded + length u.history.entries) (g.B.Blocks.blocks o.tables.blocks) (g.B.Blocks.holds o.tables.blocks) (rods_of g.B.Pins.number (g.B.Blocks.block_length o.tables.blocks) (g.B.Blocks.shown o.tables.blocks) o.tables.tokens).tokens o.tables.jobs o.tables.reservations in
    let stood : StandsFor o.config o.unit shown u.history.entries u.folded h = rw (← c.self.view_is) at (answers_as c.args.self.now h s) in
    let p = c.standing_law.ensures shown u.history.entries u.folded h w stood own in
    let count : length past - u.folded ≡ length u.history.entries = length-kept o.config o.unit u.history.entries u.folded w t.record_is.own r.keeps in
    let bytes : payload u.folded past ≡ payload_in u.history.entries = payload-kept o.config o.unit u.history.entries u.folded w t.record_is.own r.keeps in
    let within : payload u.folded past ≤ limit.payload = omega (arith, bytes, r.bytes) in
    let free : c.reserved.result ≡ kept_free past = c.reserved.ensures.reserved ∙ ap jobs.reserved t.jobs ∙ reserved-is o.config o.unit past known.is in
    let needed : c.need.result ≡ need past c.args.actor c.args.act.now = c.need.ensures.need w t in
    let most : c.from.result ≡ limit.entries = c.from.ensures ∙ ap (λ (v : UnitConfig). v.entries) c.unit-unit.ensures.told in
    let room : length past - u.folded + kept_free past + need past c.args.actor c.args.act.now ≤ limit.entries = omega (arith, c.len.ensures, count, free, needed, most) in
    let sums : u.payload + c.bytes_in.result ≡ payload u.folded past + bytes_in c.args.act.now = ap (λ n. n + c.bytes_in.result) (r.payload ∙ sym bytes) ∙ ap (λ n. payload u.folded past + n) c.bytes_in.ensures in
    let limit-bytes : c.from-2.result ≡ limit.payload = c.from-2.ensures ∙ ap (λ (v : UnitConfig). v.payload) c.unit-unit.ensures.told in
    let last : max c.args.stamp (last_stamp past) ≡ c.max.result = ap (max c.args.stamp) (sym t.stamp) ∙ sym c.max.ensures in
    rw (← c.self.view_is, sums, limit-bytes)
    (sym (full-bytes limit u.folded past c.args.actor c.args.stamp c.args.act.now within (λ e. c.if-max.false (sym last ∙ e)) room) ∙ sym (p.full c.args.actor c.args.stamp c.args.act.now))
