use Rattle.std.proofs.Common.{◌≡◌, ◌+◌, ◌-◌, length, take, ◌∙◌, ap, refl, sym, subst, arith}
use Rattle.cm_base.specs.Units.{unit_of}
use Rattle.cm_history.specs.Folding.{StandsFor}
use Rattle.cm_history.specs.History.{past_of}
use Rattle.unit_core.specs.UnitState.{UnitState, Stands, shared_by}
use Rattle.unit_core.proofs.AnswersAs.{answers_as}
use Rattle.unit_core.specs.Versions.{shares_table}
use Rattle.unit_core.specs.inner.Seen.{shares_shown}
use Rattle.unit_core.specs.inner.Agreeing.{TablesAgree}
use Rattle.unit_core.specs.inner.Shown.{image_shown}
use Rattle.unit_core.proofs.Standing.{stands-own}
use Rattle.unit_core.proofs.Steps.{known-of}
use Rattle.recorder.specs.Recording.{with_more}
use Rattle.std.proofs.Common.{length-append}
use Rattle.std.proofs.lemmas.List.{length-drop}
use Rattle.unit_core.proofs.Folds.{all-short, told-fold}
use Rattle.unit_core.proofs.Steps.{record-fold}
use Rattle.rod_store.specs.Pinning.{rods_of}
use Rattle.unit_core.proofs.unit.UnitOver.fold.Goals as goal

pub record_all-end-requires-clause-short : goal.record_all-end-requires-clause-short
record_all-end-requires-clause-short g c =
    let u = c.self.inside in
    let o = u.core in
    let w = c.self.invariant.0 in
    let t : TablesAgree o.config o.unit (g.B.Blocks.blocks o.tables.blocks) (g.B.Blocks.block_length o.tables.blocks) (g.B.Blocks.holds o.tables.blocks) (rods_of g.B.Pins.number (g.B.Blocks.block_length o.tables.blocks) (g.B.Blocks.shown o.tables.blocks) o.tables.tokens) o.tables.jobs o.tables.reservations o.last_stamp o.moment w = c.self.invariant.1 in
    let r = c.self.invariant.2 in
    let past = past_of o.config o.unit w in
    let known = known-of o.config o.unit w t.record_is in
    let limit = unit_of o.config o.unit in
    let own = stands-own o.config o.unit u.history.entries u.folded u.history.spare u.payload (g.B.Blocks.blocks o.tables.blocks) (g.B.Blocks.block_length o.tables.blocks) (g.B.Blocks.holds o.tables.blocks) (rods_of g.B.Pins.number (g.B.Blocks.block_length o.tables.blocks) (g.B.Blocks.shown o.tables.blocks) o.tables.tokens) o.tables.jobs o.tables.reservations o.last_stamp o.moment w t r in
    let shown = image_shown o.moment o.last_stamp (u.folded + length u.history.entries) (g.B.Blocks.blocks o.tables.blocks) (g.B.Blocks.holds o.tables.blocks) (rods_of g.B.Pins.number (g.B.Blocks.block_length o.tables.blocks) (g.B.Blocks.shown o.tables.blocks) o.tables.tokens).tokens o.tables.jobs o.tables.reservations in
    let p = c.standing_law.ensures shown u.history.entries u.folded w w own own in
    all-short o.config o.unit u.history.entries p.within

pub record_all-end-requires-clause-few : goal.record_all-end-requires-clause-few
record_all-end-requires-clause-few g c =
    let r = c.self.invariant.2 in
    let few = c.self.invariant.1.record_is.limits.payload.1 in
    omega (arith, r.bytes, few)

pub overflow_add-self : goal.overflow_add-self
overflow_add-self g c =
    let u = c.self.inside in
    let w = c.self.invariant.0 in
    let r = c.self.invariant.2 in
    let m = c.record_all-end.ensures.moved in
    let long : length u.history.entries ≡ length m.0 + length c.record_all-end.new.history.entries = ap length (sym m.1) ∙ length-append m.0 c.record_all-end.new.history.entries in
    let all : length u.history.entries ≡ length w - u.folded = ap length (sym r.keeps) ∙ length-drop u.folded w in
    omega (arith, c.len-before.ensures, c.len.ensures, long, all, r.few, r.stamps, r.last)

pub invariant_of-self : goal.invariant_of-self
invariant_of-self g c =
    let u = c.self.inside in
    let o = u.core in
    let w = c.self.invariant.0 in
    let t : TablesAgree o.config o.unit (g.B.Blocks.blocks o.tables.blocks) (g.B.Blocks.block_length o.tables.blocks) (g.B.Blocks.holds o.tables.blocks) (rods_of g.B.Pins.number (g.B.Blocks.block_length o.tables.blocks) (g.B.Blocks.shown o.tables.blocks) o.tables.tokens) o.tables.jobs o.tables.reservations o.last_stamp o.moment w = c.self.invariant.1 in
    let r = c.self.invariant.2 in
    let past = past_of o.config o.unit w in
    let known = known-of o.config o.unit w t.record_is in
    let limit = unit_of o.config o.unit in
    let m = c.record_all-end.ensures.moved in
    let long : length u.history.entries ≡ length m.0 + length c.record_all-end.new.history.entries = ap length (sym m.1) ∙ length-append m.0 c.record_all-end.new.history.entries in
    let gone : c.len-before.result - c.len.result ≡ length m.0 = omega (arith, c.len-before.ensures, c.len.ensures, long) in
    rw (gone, c.record_all-end.ensures.room) (w, t, record-fold o.config o.unit u.history.entries c.record_all-end.new.history.entries m.0 u.folded u.history.spare u.payload c.record_all-end.new.payload w m.1 r c.record_all-end.ensures.payload, c.self.invariant.3, c.self.invariant.4)

pub returns-clause-stands : goal.returns-clause-stands
returns-clause-stands g c = λ h s.
    let u = c.self.inside in
    let o = u.core in
    let w = c.self.invariant.0 in
    let t : TablesAgree o.config o.unit (g.B.Blocks.blocks o.tables.blocks) (g.B.Blocks.block_length o.tables.blocks) (g.B.Blocks.holds o.tables.blocks) (rods_of g.B.Pins.number (g.B.Blocks.block_length o.tables.blocks) (g.B.Blocks.shown o.tables.blocks) o.tables.tokens) o.tables.jobs o.tables.reservations o.last_stamp o.moment w = c.self.invariant.1 in
    let r = c.self.invariant.2 in
    let past = past_of o.config o.unit w in
    let known = known-of o.config o.unit w t.record_is in
    let limit = unit_of o.config o.unit in
    let own = stands-own o.config o.unit u.history.entries u.folded u.history.spare u.payload (g.B.Blocks.blocks o.tables.blocks) (g.B.Blocks.block_length o.tables.blocks) (g.B.Blocks.holds o.tables.blocks) (rods_of g.B.Pins.number (g.B.Blocks.block_length o.tables.blocks) (g.B.Blocks.shown o.tables.blocks) o.tables.tokens) o.tables.jobs o.tables.reservations o.last_stamp o.moment w t r in
    let shown = image_shown o.moment o.last_stamp (u.folded + length u.history.entries) (g.B.Blocks.blocks o.tables.blocks) (g.B.Blocks.holds o.tables.blocks) (rods_of g.B.Pins.number (g.B.Blocks.block_length o.tables.blocks) (g.B.Blocks.shown o.tables.blocks) o.tables.tokens).tokens o.tables.jobs o.tables.reservations in
    let stood : StandsFor o.config o.unit shown u.history.entries u.folded h = rw (← c.self.view_is) at (answers_as c.args.self.now h s) in
    let p = c.standing_law.ensures shown u.history.entries u.folded h w stood own in
    let m = c.record_all-end.ensures.moved in
    let long : length u.history.entries ≡ length m.0 + length c.record_all-end.new.history.entries = ap length (sym m.1) ∙ length-append m.0 c.record_all-end.new.history.entries in
    let gone : c.len-before.result - c.len.result ≡ length m.0 = omega (arith, c.len-before.ensures, c.len.ensures, long) in
    let count : u.folded + length m.0 + length c.record_all-end.new.history.entries ≡ u.folded + length u.history.entries = omega (arith, long) in
    let now = p.folds m.0 c.record_all-end.new.history.entries m.1 in
    let its : shared_by limit.blocks (past_of o.config o.unit h) ≡ shares_table (g.B.Blocks.blocks o.tables.blocks) (length o.tables.tokens.tokens) (shares_shown g.B.Pins.number (g.B.SharedVersions.shares o.tables.blocks) o.tables.tokens.tokens) =
    (subst (λ (v : UnitState). Stands v h) (sym c.self.view_is) s).versions in
    rw (gone, count) (record { own = now.own; asked = now.asked; image = now.image; keeps = now.keeps; few = now.few; versions = its })

pub returns-clause-image : goal.returns-clause-image
returns-clause-image g c =
    let u = c.self.inside in
    let o = u.core in
    let w = c.self.invariant.0 in
    let t : TablesAgree o.config o.unit (g.B.Blocks.blocks o.tables.blocks) (g.B.Blocks.block_length o.tables.blocks) (g.B.Blocks.holds o.tables.blocks) (rods_of g.B.Pins.number (g.B.Blocks.block_length o.tables.blocks) (g.B.Blocks.shown o.tables.blocks) o.tables.tokens) o.tables.jobs o.tables.reservations o.last_stamp o.moment w = c.self.invariant.1 in
    let r = c.self.invariant.2 in
    let past = past_of o.config o.unit w in
    let known = known-of o.config o.unit w t.record_is in
    let limit = unit_of o.config o.unit in
    let m = c.record_all-end.ensures.moved in
    let long : length u.history.entries ≡ length m.0 + length c.record_all-end.new.history.entries = ap length (sym m.1) ∙ length-append m.0 c.record_all-end.new.history.entries in
    let gone : c.len-before.result - c.len.result ≡ length m.0 = omega (arith, c.len-before.ensures, c.len.ensures, long) in
    let count : u.folded + length m.0 + length c.record_all-end.new.history.entries ≡ u.folded + length u.history.entries = omega (arith, long) in
    rw (← c.self.view_is, gone, count) refl

pub returns-clause-moved : goal.returns-clause-moved
returns-clause-moved g c =
    let u = c.self.inside in
    let o = u.core in
    let w = c.self.invariant.0 in
    let t : TablesAgree o.config o.unit (g.B.Blocks.blocks o.tables.blocks) (g.B.Blocks.block_length o.tables.blocks) (g.B.Blocks.holds o.tables.blocks) (rods_of g.B.Pins.number (g.B.Blocks.block_length o.tables.blocks) (g.B.Blocks.shown o.tables.blocks) o.tables.tokens) o.tables.jobs o.tables.reservations o.last_stamp o.moment w = c.self.invariant.1 in
    let r = c.self.invariant.2 in
    let past = past_of o.config o.unit w in
    let known = known-of o.config o.unit w t.record_is in
    let limit = unit_of o.config o.unit in
    let m = c.record_all-end.ensures.moved in
    let long : length u.history.entries ≡ length m.0 + length c.record_all-end.new.history.entries = ap length (sym m.1) ∙ length-append m.0 c.record_all-end.new.history.entries in
    let gone : c.len-before.result - c.len.result ≡ length m.0 = omega (arith, c.len-before.ensures, c.len.ensures, long) in
    rw (← c.self.view_is, gone) (m.0, m.1, m.2, refl)

pub returns-clause-told : goal.returns-clause-told
returns-clause-told g c = λ h start s told.
    let u = c.self.inside in
    let o = u.core in
    let w = c.self.invariant.0 in
    let t : TablesAgree o.config o.unit (g.B.Blocks.blocks o.tables.blocks) (g.B.Blocks.block_length o.tables.blocks) (g.B.Blocks.holds o.tables.blocks) (rods_of g.B.Pins.number (g.B.Blocks.block_length o.tables.blocks) (g.B.Blocks.shown o.tables.blocks) o.tables.tokens) o.tables.jobs o.tables.reservations o.last_stamp o.moment w = c.self.invariant.1 in
    let r = c.self.invariant.2 in
    let past = past_of o.config o.unit w in
    let known = known-of o.config o.unit w t.record_is in
    let limit = unit_of o.config o.unit in
    let own = stands-own o.config o.unit u.history.entries u.folded u.history.spare u.payload (g.B.Blocks.blocks o.tables.blocks) (g.B.Blocks.block_length o.tables.blocks) (g.B.Blocks.holds o.tables.blocks) (rods_of g.B.Pins.number (g.B.Blocks.block_length o.tables.blocks) (g.B.Blocks.shown o.tables.blocks) o.tables.tokens) o.tables.jobs o.tables.reservations o.last_stamp o.moment w t r in
    let shown = image_shown o.moment o.last_stamp (u.folded + length u.history.entries) (g.B.Blocks.blocks o.tables.blocks) (g.B.Blocks.holds o.tables.blocks) (rods_of g.B.Pins.number (g.B.Blocks.block_length o.tables.blocks) (g.B.Blocks.shown o.tables.blocks) o.tables.tokens).tokens o.tables.jobs o.tables.reservations in
    let stood : StandsFor o.config o.unit shown u.history.entries u.folded h = rw (← c.self.view_is) at (answers_as c.args.self.now h s) in
    let p = c.standing_law.ensures shown u.history.entries u.folded h w stood own in
    let m = c.record_all-end.ensures.moved in
    let long : length u.history.entries ≡ length m.0 + length c.record_all-end.new.history.entries = ap length (sym m.1) ∙ length-append m.0 c.record_all-end.new.history.entries in
    let gone : c.len-before.result - c.len.result ≡ length m.0 = omega (arith, c.len-before.ensures, c.len.ensures, long) in
    let folded : c.args.self.now.folded ≡ u.folded = rw (← c.self.view_is) refl in
    rw gone (told-fold h m.0 c.record_all-end.new.history.entries u.history.entries u.folded start (g.R.Recorder.recorded c.args.recorder.now) (g.R.Recorder.recorded c.record_all-end.new.recorder)
    stood.keeps m.1 m.2 (told ∙ ap (λ n. with_more start (take n h)) folded))

pub returns-clause-idle : goal.returns-clause-idle
returns-clause-idle g c = λ absent.
    let gone : c.len-before.result - c.len.result ≡ 0 = omega (arith, c.len-before.ensures, c.len.ensures, ap length (c.record_all-end.ensures.idle absent)) in
    rw (← c.self.view_is) (omega (arith, gone))
