use Rattle.std.proofs.Common.{◌≡◌, ◌≤◌, ◌<◌, ◌+◌, ◌-◌, ◌++◌, ◌∷◌, [], ℕ, List, length, true, false, Bool, ◌∙◌, ap, refl, sym, subst, arith}
use Rattle.std.specs.Prelude.{is_some, max}
use Rattle.cm_base.specs.Units.{unit_of}
use Rattle.cm_history.specs.Folding.{StandsFor}
use Rattle.cm_history.specs.History.{past_of}
use Rattle.unit_core.specs.UnitState.{Stands}
use Rattle.unit_core.proofs.AnswersAs.{answers_as}
use Rattle.unit_core.specs.inner.Agreeing.{TablesAgree}
use Rattle.unit_core.specs.inner.Shown.{image_shown}
use Rattle.unit_core.proofs.Standing.{stands-own}
use Rattle.unit_core.proofs.Steps.{known-of}
use Rattle.std.specs.Prelude.{Result, Ok, Err, IfErr, ◌^◌, ◌==◌}
use Rattle.cm_history.specs.declared.act.Entry.{Entry}
use Rattle.cm_history.specs.Operations.{would_serve}
use Rattle.cm_history.specs.Asked.{IsAsked}
use Rattle.cm_history.specs.Deeds.{last_stamp}
use Rattle.cm_history.specs.Answers.{answer_after, deed}
use Rattle.cm_history.specs.Ends.{ends_operation}
use Rattle.cm_history.specs.Forms.{HasForm}
use Rattle.cm_history.specs.Room.{is_full, kept_free, need, payload}
use Rattle.unit_core.specs.UnitState.{UnitState, shared_by}
use Rattle.unit_core.specs.Acting.{MayRedeem}
use Rattle.unit_core.specs.inner.Agreeing.{payload_in}
use Rattle.unit_core.proofs.Forming.{answer-formed}
use Rattle.unit_core.proofs.Rooms.{full-serving, reserved-step, room-of}
use Rattle.unit_core.proofs.Standing.{ends-alike}
use Rattle.unit_core.proofs.Steps.{length-kept, payload-kept, record-more, record-step, stamp-next}
use Rattle.unit_core.proofs.TableAnswers.{redeem-given}
use Rattle.rod_store.specs.Pinning.{rods_of, rod_shown}
use Rattle.cm_history.specs.Image.{Image}
use Rattle.unit_core.specs.Versions.{shares_table, writer_seen}
use Rattle.unit_core.specs.inner.Seen.{shares_shown, AreWriters}
use Rattle.unit_core.proofs.Changing.{on-err}
use Rattle.unit_core.proofs.WriterSteps.{alike-shared, alike-step, shared-alike, stands-with, table-are}
use Rattle.unit_core.proofs.unit.UnitOver.act.Goals as goal

if-err : {T F : Type 0} (r : Result T F) (P : F → Type 0) → ((e : F) → P e) → IfErr r P
if-err (Ok x) P h = tt
if-err (Err e) P h = h e

pub perform-requires-clause-known : goal.perform-requires-clause-known
perform-requires-clause-known g c = (c.self.invariant.0, c.self.invariant.1)

pub returns-then-is_full-clause-full : goal.returns-then-is_full-clause-full
returns-then-is_full-clause-full g c = λ e h s. sym (c.is_full.ensures h s) ∙ c.if-is_full.true

pub returns-then-is_full-clause-serves : goal.returns-then-is_full-clause-serves
returns-then-is_full-clause-serves g c = λ e h s serves.
    let u = c.self.inside in
    let o = u.core in
    let w = c.self.invariant.0 in
    let t : TablesAgree o.config o.unit (g.B.Blocks.blocks o.tables.blocks) (g.B.Blocks.block_length o.tables.blocks) (g.B.Blocks.holds o.tables.blocks) (rods_of g.B.Pins.number (g.B.Blocks.block_length o.tables.blocks) (g.B.Blocks.shown o.tables.blocks) o.tables.tokens) o.tables.jobs o.tables.reservations o.last_stamp o.moment w = c.self.invariant.1 in
    let r = c.self.invariant.2 in
    let past = past_of o.config o.unit w in
    let known = known-of o.config o.unit w t.record_is in
    let limit = unit_of o.config o.unit in
    let own = stands-own o.config o.unit u.history.entries u.folded u.history.spare u.payload (g.B.Blocks.blocks o.tables.blocks) (g.B.Blocks.block_length o.tables.blocks) (g.B.Blocks.holds o.tables.blocks) (rods_of g.B.Pins.number (g.B.Blocks.block_length o.tables.blocks) (g.B.Blocks.shown o.tables.blocks) o.tables.tokens) o.tables.jobs o.tables.reservations o.last_stamp o.moment w t r in
    let shown = image_shown o.moment o.last_stamp (u.folded + length u.history.entries) (g.B.Blocks.blocks o.tables.blocks) (g.B.Blocks.holds o.tables.blocks) (rods_of g.B.Pins.number (g.B.Blocks.block_length o.tables.blocks) (g.B.Blocks.shown o.tables.blocks) o.tables.tokens).tokens o.tables.jobs o.tables.reservations in
    let stood : StandsFor o.config o.unit shown u.history.entries u.folded h = rw (← c.self.view_is) at (answers_as c.args.self.now h s) in
    let p = c.standing_law.ensures shown u.history.entries u.folded h w stood own in
    let table = table-are g.B.Pins.number (g.B.Blocks.blocks o.tables.blocks) limit.blocks (g.B.Blocks.pinned o.tables.blocks) (g.B.Blocks.written_by o.tables.blocks) o.tables.tokens.tokens past
    (rod_shown g.B.Pins.number (g.B.Blocks.block_length o.tables.blocks) (g.B.Blocks.shown o.tables.blocks)) limit c.self.invariant.3 c.self.invariant.4 (g.B.SharedVersions.shares o.tables.blocks)
    (g.met.B.SharedVersions.told o.tables.blocks c.self.invariant.4.writers c.self.invariant.4.written) t.blocks.count t.tokens.tokens in
    let state : UnitState = record {
      config = o.config;
      unit = o.unit;
      kept = u.history.entries;
      folded = u.folded;
      image = image_shown o.moment o.last_stamp (u.folded + length u.history.entries) (g.B.Blocks.blocks o.tables.blocks) (g.B.Blocks.holds o.tables.blocks) (rods_of g.B.Pins.number (g.B.Blocks.block_length o.tables.blocks) (g.B.Blocks.shown o.tables.blocks) o.tables.tokens).tokens o.tables.jobs o.tables.reservations;
      shares = shares_table (g.B.Blocks.blocks o.tables.blocks) (length o.tables.tokens.tokens) (shares_shown g.B.Pins.number (g.B.SharedVersions.shares o.tables.blocks) o.tables.tokens.tokens);
    } in
    let standing : Stands c.args.self.now w = rw (← c.self.view_is) (stands-with state w own table) in
    let full : is_full limit u.folded past c.args.actor c.args.stamp c.args.act ≡ true = rw (← c.self.view_is) at (sym (c.is_full.ensures w standing) ∙ c.if-is_full.true) in
    let count : length past - u.folded ≡ length u.history.entries = length-kept o.config o.unit u.history.entries u.folded w t.record_is.own r.keeps in
    let bytes : payload u.folded past ≡ payload_in u.history.entries = payload-kept o.config o.unit u.history.entries u.folded w t.record_is.own r.keeps in
    let served : is_some (would_serve past c.args.actor c.args.act) ≡ true = sym (p.serves c.args.actor c.args.act) ∙ (rw (← c.self.view_is) at serves) in
    rw (← c.self.view_is) (ap (max c.args.stamp) t.stamp
    ∙ full-serving limit u.folded past c.args.actor c.args.stamp c.args.act (omega (arith, bytes, r.bytes)) (omega (arith, count, r.room)) served full)

pub append-requires : goal.append-requires
append-requires g c =
    let u = c.self.inside in
    let o = u.core in
    let w = c.self.invariant.0 in
    let t : TablesAgree o.config o.unit (g.B.Blocks.blocks o.tables.blocks) (g.B.Blocks.block_length o.tables.blocks) (g.B.Blocks.holds o.tables.blocks) (rods_of g.B.Pins.number (g.B.Blocks.block_length o.tables.blocks) (g.B.Blocks.shown o.tables.blocks) o.tables.tokens) o.tables.jobs o.tables.reservations o.last_stamp o.moment w = c.self.invariant.1 in
    let r = c.self.invariant.2 in
    let past = past_of o.config o.unit w in
    let known = known-of o.config o.unit w t.record_is in
    let limit = unit_of o.config o.unit in
    let e : Entry = record { stamp = c.max-stamp.result + 1; unit = o.unit; actor = c.args.actor; seq = c.args.seq; moment = c.args.moment; act = c.args.act } in
    let asked : IsAsked o.config o.unit (deed o.config o.unit past e) = record { limits = rw (← c.self.view_is) at c.requires.limits; asked = rw (← c.self.view_is) at c.requires.asked } in
    let takes = reserved-step o.config o.unit past (deed o.config o.unit past e) known asked refl in
    omega (arith, takes, c.in_ok-answer.ensures.room w t)

pub invariant_of-self-2 : goal.invariant_of-self-2
invariant_of-self-2 g c =
    let u = c.self.inside in
    let o = u.core in
    let w = c.self.invariant.0 in
    let t : TablesAgree o.config o.unit (g.B.Blocks.blocks o.tables.blocks) (g.B.Blocks.block_length o.tables.blocks) (g.B.Blocks.holds o.tables.blocks) (rods_of g.B.Pins.number (g.B.Blocks.block_length o.tables.blocks) (g.B.Blocks.shown o.tables.blocks) o.tables.tokens) o.tables.jobs o.tables.reservations o.last_stamp o.moment w = c.self.invariant.1 in
    let r = c.self.invariant.2 in
    let past = past_of o.config o.unit w in
    let known = known-of o.config o.unit w t.record_is in
    let limit = unit_of o.config o.unit in
    let own = stands-own o.config o.unit u.history.entries u.folded u.history.spare u.payload (g.B.Blocks.blocks o.tables.blocks) (g.B.Blocks.block_length o.tables.blocks) (g.B.Blocks.holds o.tables.blocks) (rods_of g.B.Pins.number (g.B.Blocks.block_length o.tables.blocks) (g.B.Blocks.shown o.tables.blocks) o.tables.tokens) o.tables.jobs o.tables.reservations o.last_stamp o.moment w t r in
    let table = table-are g.B.Pins.number (g.B.Blocks.blocks o.tables.blocks) limit.blocks (g.B.Blocks.pinned o.tables.blocks) (g.B.Blocks.written_by o.tables.blocks) o.tables.tokens.tokens past
    (rod_shown g.B.Pins.number (g.B.Blocks.block_length o.tables.blocks) (g.B.Blocks.shown o.tables.blocks)) limit c.self.invariant.3 c.self.invariant.4 (g.B.SharedVersions.shares o.tables.blocks)
    (g.met.B.SharedVersions.told o.tables.blocks c.self.invariant.4.writers c.self.invariant.4.written) t.blocks.count t.tokens.tokens in
    let state : UnitState = record {
      config = o.config;
      unit = o.unit;
      kept = u.history.entries;
      folded = u.folded;
      image = image_shown o.moment o.last_stamp (u.folded + length u.history.entries) (g.B.Blocks.blocks o.tables.blocks) (g.B.Blocks.holds o.tables.blocks) (rods_of g.B.Pins.number (g.B.Blocks.block_length o.tables.blocks) (g.B.Blocks.shown o.tables.blocks) o.tables.tokens).tokens o.tables.jobs o.tables.reservations;
      shares = shares_table (g.B.Blocks.blocks o.tables.blocks) (length o.tables.tokens.tokens) (shares_shown g.B.Pins.number (g.B.SharedVersions.shares o.tables.blocks) o.tables.tokens.tokens);
    } in
    let standing : Stands c.args.self.now w = rw (← c.self.view_is) (stands-with state w own table) in
    let e : Entry = record { stamp = c.max-stamp.result + 1; unit = o.unit; actor = c.args.actor; seq = c.args.seq; moment = c.args.moment; act = c.args.act } in
    let asked : IsAsked o.config o.unit (deed o.config o.unit past e) = record { limits = rw (← c.self.view_is) at c.requires.limits; asked = rw (← c.self.view_is) at c.requires.asked } in
    let full : is_full limit u.folded past c.args.actor c.args.stamp c.args.act ≡ false = rw (← c.self.view_is) at (sym (c.is_full.ensures w standing) ∙ c.if-is_full.false) in
    let k = c.perform.new.self in
    let after = c.in_ok-answer.ensures.after w c.args.seq t in
    let tables : TablesAgree o.config o.unit (g.B.Blocks.blocks k.tables.blocks) (g.B.Blocks.block_length k.tables.blocks) (g.B.Blocks.holds k.tables.blocks) (rods_of g.B.Pins.number (g.B.Blocks.block_length k.tables.blocks) (g.B.Blocks.shown k.tables.blocks) k.tables.tokens) k.tables.jobs k.tables.reservations k.last_stamp k.moment (w ++ e ∷ []) = rw (c.perform.ensures.config, c.perform.ensures.unit) at after in
    let count : length past - u.folded ≡ length u.history.entries = length-kept o.config o.unit u.history.entries u.folded w t.record_is.own r.keeps in
    let bytes : payload u.folded past ≡ payload_in u.history.entries = payload-kept o.config o.unit u.history.entries u.folded w t.record_is.own r.keeps in
    let within : payload u.folded past ≤ limit.payload = omega (arith, bytes, r.bytes) in
    let has = room-of limit u.folded past c.args.actor c.args.stamp c.args.act within full in
    let fits : c.max-stamp.result + 1 < 2 ^ 64 = stamp-next c.max-stamp.result c.max-stamp.type_inv (ap (λ (n : ℕ). n == 2 ^ 64 - 1) (c.max-stamp.ensures ∙ ap (max c.args.stamp) t.stamp) ∙ has.stamps) in
    let kept : c.append.new.self.entries ≡ u.history.entries ++ e ∷ [] = c.append.ensures.added ∙ ap (λ l. l ++ e ∷ []) c.perform.ensures.entries in
    let spare : kept_free past + need past c.args.actor c.args.act ≤ c.append.new.self.spare + 1 = omega (arith, c.in_ok-answer.ensures.room w t, c.append.ensures.room) in
    let later : last_stamp past + 1 ≤ c.max-stamp.result + 1 = omega (arith, c.max-stamp.ensures, t.stamp) in
    let record_now = record-step o.config o.unit u.history.entries u.folded u.history.spare c.append.new.self.spare u.payload (u.payload + c.bytes_in.result) w e c.args.stamp
    r t.record_is refl asked later fits full spare (ap (λ n. u.payload + n) c.bytes_in.ensures) in
    let are : AreWriters g.B.Pins.number (g.B.Blocks.written_by k.tables.blocks) k.tables.tokens.tokens (writer_seen (past_of o.config o.unit (w ++ e ∷ []))) = c.in_ok-answer.ensures.written w c.args.seq t c.self.invariant.4 in
    rw (kept, c.perform.ensures.config, c.perform.ensures.unit) (w ++ e ∷ [], tables, record_now, c.perform.ensures.pinned, are)

pub returns-clause-answer : goal.returns-clause-answer
returns-clause-answer g c = λ h s.
    let u = c.self.inside in
    let o = u.core in
    let w = c.self.invariant.0 in
    let t : TablesAgree o.config o.unit (g.B.Blocks.blocks o.tables.blocks) (g.B.Blocks.block_length o.tables.blocks) (g.B.Blocks.holds o.tables.blocks) (rods_of g.B.Pins.number (g.B.Blocks.block_length o.tables.blocks) (g.B.Blocks.shown o.tables.blocks) o.tables.tokens) o.tables.jobs o.tables.reservations o.last_stamp o.moment w = c.self.invariant.1 in
    let r = c.self.invariant.2 in
    let past = past_of o.config o.unit w in
    let known = known-of o.config o.unit w t.record_is in
    let limit = unit_of o.config o.unit in
    let own = stands-own o.config o.unit u.history.entries u.folded u.history.spare u.payload (g.B.Blocks.blocks o.tables.blocks) (g.B.Blocks.block_length o.tables.blocks) (g.B.Blocks.holds o.tables.blocks) (rods_of g.B.Pins.number (g.B.Blocks.block_length o.tables.blocks) (g.B.Blocks.shown o.tables.blocks) o.tables.tokens) o.tables.jobs o.tables.reservations o.last_stamp o.moment w t r in
    let shown = image_shown o.moment o.last_stamp (u.folded + length u.history.entries) (g.B.Blocks.blocks o.tables.blocks) (g.B.Blocks.holds o.tables.blocks) (rods_of g.B.Pins.number (g.B.Blocks.block_length o.tables.blocks) (g.B.Blocks.shown o.tables.blocks) o.tables.tokens).tokens o.tables.jobs o.tables.reservations in
    let stood : StandsFor o.config o.unit shown u.history.entries u.folded h = rw (← c.self.view_is) at (answers_as c.args.self.now h s) in
    let p = c.standing_law.ensures shown u.history.entries u.folded h w stood own in
    rw (← c.self.view_is) (c.in_ok-answer.ensures.answer w t ∙ sym (p.alike c.args.actor c.args.moment c.args.act))

pub returns-clause-room : goal.returns-clause-room
returns-clause-room g c = λ h s. sym (c.is_full.ensures h s) ∙ c.if-is_full.false

pub returns-clause-kept : goal.returns-clause-kept
returns-clause-kept g c =
    let o = c.self.inside.core in
    let e : Entry = record { stamp = c.max-stamp.result + 1; unit = o.unit; actor = c.args.actor; seq = c.args.seq; moment = c.args.moment; act = c.args.act } in
    let added : c.append.new.self.entries ≡ c.self.inside.history.entries ++ e ∷ [] = c.append.ensures.added ∙ ap (λ l. l ++ e ∷ []) c.perform.ensures.entries in
    rw (← c.self.view_is, ← c.max-stamp.ensures) added

pub overflow_add-stamp : goal.overflow_add-stamp
overflow_add-stamp g c =
    let u = c.self.inside in
    let o = u.core in
    let w = c.self.invariant.0 in
    let t : TablesAgree o.config o.unit (g.B.Blocks.blocks o.tables.blocks) (g.B.Blocks.block_length o.tables.blocks) (g.B.Blocks.holds o.tables.blocks) (rods_of g.B.Pins.number (g.B.Blocks.block_length o.tables.blocks) (g.B.Blocks.shown o.tables.blocks) o.tables.tokens) o.tables.jobs o.tables.reservations o.last_stamp o.moment w = c.self.invariant.1 in
    let r = c.self.invariant.2 in
    let past = past_of o.config o.unit w in
    let known = known-of o.config o.unit w t.record_is in
    let limit = unit_of o.config o.unit in
    let own = stands-own o.config o.unit u.history.entries u.folded u.history.spare u.payload (g.B.Blocks.blocks o.tables.blocks) (g.B.Blocks.block_length o.tables.blocks) (g.B.Blocks.holds o.tables.blocks) (rods_of g.B.Pins.number (g.B.Blocks.block_length o.tables.blocks) (g.B.Blocks.shown o.tables.blocks) o.tables.tokens) o.tables.jobs o.tables.reservations o.last_stamp o.moment w t r in
    let table = table-are g.B.Pins.number (g.B.Blocks.blocks o.tables.blocks) limit.blocks (g.B.Blocks.pinned o.tables.blocks) (g.B.Blocks.written_by o.tables.blocks) o.tables.tokens.tokens past
    (rod_shown g.B.Pins.number (g.B.Blocks.block_length o.tables.blocks) (g.B.Blocks.shown o.tables.blocks)) limit c.self.invariant.3 c.self.invariant.4 (g.B.SharedVersions.shares o.tables.blocks)
    (g.met.B.SharedVersions.told o.tables.blocks c.self.invariant.4.writers c.self.invariant.4.written) t.blocks.count t.tokens.tokens in
    let state : UnitState = record {
      config = o.config;
      unit = o.unit;
      kept = u.history.entries;
      folded = u.folded;
      image = image_shown o.moment o.last_stamp (u.folded + length u.history.entries) (g.B.Blocks.blocks o.tables.blocks) (g.B.Blocks.holds o.tables.blocks) (rods_of g.B.Pins.number (g.B.Blocks.block_length o.tables.blocks) (g.B.Blocks.shown o.tables.blocks) o.tables.tokens).tokens o.tables.jobs o.tables.reservations;
      shares = shares_table (g.B.Blocks.blocks o.tables.blocks) (length o.tables.tokens.tokens) (shares_shown g.B.Pins.number (g.B.SharedVersions.shares o.tables.blocks) o.tables.tokens.tokens);
    } in
    let standing : Stands c.args.self.now w = rw (← c.self.view_is) (stands-with state w own table) in
    let full : is_full limit u.folded past c.args.actor c.args.stamp c.args.act ≡ false = rw (← c.self.view_is) at (sym (c.is_full.ensures w standing) ∙ c.if-is_full.false) in
    let count : length past - u.folded ≡ length u.history.entries = length-kept o.config o.unit u.history.entries u.folded w t.record_is.own r.keeps in
    let bytes : payload u.folded past ≡ payload_in u.history.entries = payload-kept o.config o.unit u.history.entries u.folded w t.record_is.own r.keeps in
    let within : payload u.folded past ≤ limit.payload = omega (arith, bytes, r.bytes) in
    let has = room-of limit u.folded past c.args.actor c.args.stamp c.args.act within full in
    let fits : c.max-stamp.result + 1 < 2 ^ 64 = stamp-next c.max-stamp.result c.max-stamp.type_inv (ap (λ (n : ℕ). n == 2 ^ 64 - 1) (c.max-stamp.ensures ∙ ap (max c.args.stamp) t.stamp) ∙ has.stamps) in
    omega (arith, fits)

pub overflow_add-self : goal.overflow_add-self
overflow_add-self g c =
    let u = c.self.inside in
    let o = u.core in
    let w = c.self.invariant.0 in
    let t : TablesAgree o.config o.unit (g.B.Blocks.blocks o.tables.blocks) (g.B.Blocks.block_length o.tables.blocks) (g.B.Blocks.holds o.tables.blocks) (rods_of g.B.Pins.number (g.B.Blocks.block_length o.tables.blocks) (g.B.Blocks.shown o.tables.blocks) o.tables.tokens) o.tables.jobs o.tables.reservations o.last_stamp o.moment w = c.self.invariant.1 in
    let r = c.self.invariant.2 in
    let past = past_of o.config o.unit w in
    let known = known-of o.config o.unit w t.record_is in
    let limit = unit_of o.config o.unit in
    let own = stands-own o.config o.unit u.history.entries u.folded u.history.spare u.payload (g.B.Blocks.blocks o.tables.blocks) (g.B.Blocks.block_length o.tables.blocks) (g.B.Blocks.holds o.tables.blocks) (rods_of g.B.Pins.number (g.B.Blocks.block_length o.tables.blocks) (g.B.Blocks.shown o.tables.blocks) o.tables.tokens) o.tables.jobs o.tables.reservations o.last_stamp o.moment w t r in
    let table = table-are g.B.Pins.number (g.B.Blocks.blocks o.tables.blocks) limit.blocks (g.B.Blocks.pinned o.tables.blocks) (g.B.Blocks.written_by o.tables.blocks) o.tables.tokens.tokens past
    (rod_shown g.B.Pins.number (g.B.Blocks.block_length o.tables.blocks) (g.B.Blocks.shown o.tables.blocks)) limit c.self.invariant.3 c.self.invariant.4 (g.B.SharedVersions.shares o.tables.blocks)
    (g.met.B.SharedVersions.told o.tables.blocks c.self.invariant.4.writers c.self.invariant.4.written) t.blocks.count t.tokens.tokens in
    let state : UnitState = record {
      config = o.config;
      unit = o.unit;
      kept = u.history.entries;
      folded = u.folded;
      image = image_shown o.moment o.last_stamp (u.folded + length u.history.entries) (g.B.Blocks.blocks o.tables.blocks) (g.B.Blocks.holds o.tables.blocks) (rods_of g.B.Pins.number (g.B.Blocks.block_length o.tables.blocks) (g.B.Blocks.shown o.tables.blocks) o.tables.tokens).tokens o.tables.jobs o.tables.reservations;
      shares = shares_table (g.B.Blocks.blocks o.tables.blocks) (length o.tables.tokens.tokens) (shares_shown g.B.Pins.number (g.B.SharedVersions.shares o.tables.blocks) o.tables.tokens.tokens);
    } in
    let standing : Stands c.args.self.now w = rw (← c.self.view_is) (stands-with state w own table) in
    let full : is_full limit u.folded past c.args.actor c.args.stamp c.args.act ≡ false = rw (← c.self.view_is) at (sym (c.is_full.ensures w standing) ∙ c.if-is_full.false) in
    let count : length past - u.folded ≡ length u.history.entries = length-kept o.config o.unit u.history.entries u.folded w t.record_is.own r.keeps in
    let bytes : payload u.folded past ≡ payload_in u.history.entries = payload-kept o.config o.unit u.history.entries u.folded w t.record_is.own r.keeps in
    let within : payload u.folded past ≤ limit.payload = omega (arith, bytes, r.bytes) in
    let has = room-of limit u.folded past c.args.actor c.args.stamp c.args.act within full in
    let fits : c.max-stamp.result + 1 < 2 ^ 64 = stamp-next c.max-stamp.result c.max-stamp.type_inv (ap (λ (n : ℕ). n == 2 ^ 64 - 1) (c.max-stamp.ensures ∙ ap (max c.args.stamp) t.stamp) ∙ has.stamps) in
    let few = t.record_is.limits.payload.1 in
    omega (arith, r.payload, bytes, has.bytes, c.bytes_in.ensures, few)

pub invariant_of-self : goal.invariant_of-self
invariant_of-self g c =
    let u = c.self.inside in
    let o = u.core in
    let w = c.self.invariant.0 in
    let t : TablesAgree o.config o.unit (g.B.Blocks.blocks o.tables.blocks) (g.B.Blocks.block_length o.tables.blocks) (g.B.Blocks.holds o.tables.blocks) (rods_of g.B.Pins.number (g.B.Blocks.block_length o.tables.blocks) (g.B.Blocks.shown o.tables.blocks) o.tables.tokens) o.tables.jobs o.tables.reservations o.last_stamp o.moment w = c.self.invariant.1 in
    let r = c.self.invariant.2 in
    let past = past_of o.config o.unit w in
    let known = known-of o.config o.unit w t.record_is in
    let limit = unit_of o.config o.unit in
    let k = c.perform.new.self in
    let after = c.in_err-answer.ensures.same w t in
    let tables : TablesAgree o.config o.unit (g.B.Blocks.blocks k.tables.blocks) (g.B.Blocks.block_length k.tables.blocks) (g.B.Blocks.holds k.tables.blocks) (rods_of g.B.Pins.number (g.B.Blocks.block_length k.tables.blocks) (g.B.Blocks.shown k.tables.blocks) k.tables.tokens) k.tables.jobs k.tables.reservations k.last_stamp k.moment w = rw (c.perform.ensures.config, c.perform.ensures.unit) at after in
    let record_now = record-more o.config o.unit u.history.entries u.folded u.history.spare c.perform.new.history.spare u.payload w r c.perform.ensures.spare in
    let are : AreWriters g.B.Pins.number (g.B.Blocks.written_by k.tables.blocks) k.tables.tokens.tokens (writer_seen past) = c.in_err-answer.ensures.writers w c.self.invariant.4 in
    rw (c.perform.ensures.entries, c.perform.ensures.config, c.perform.ensures.unit) (w, tables, record_now, c.perform.ensures.pinned, are)

pub returns-in_err-answer-clause-ends : goal.returns-in_err-answer-clause-ends
returns-in_err-answer-clause-ends g c =
    let u = c.self.inside in
    let o = u.core in
    let w = c.self.invariant.0 in
    let t : TablesAgree o.config o.unit (g.B.Blocks.blocks o.tables.blocks) (g.B.Blocks.block_length o.tables.blocks) (g.B.Blocks.holds o.tables.blocks) (rods_of g.B.Pins.number (g.B.Blocks.block_length o.tables.blocks) (g.B.Blocks.shown o.tables.blocks) o.tables.tokens) o.tables.jobs o.tables.reservations o.last_stamp o.moment w = c.self.invariant.1 in
    let r = c.self.invariant.2 in
    let past = past_of o.config o.unit w in
    let known = known-of o.config o.unit w t.record_is in
    let limit = unit_of o.config o.unit in
    let own = stands-own o.config o.unit u.history.entries u.folded u.history.spare u.payload (g.B.Blocks.blocks o.tables.blocks) (g.B.Blocks.block_length o.tables.blocks) (g.B.Blocks.holds o.tables.blocks) (rods_of g.B.Pins.number (g.B.Blocks.block_length o.tables.blocks) (g.B.Blocks.shown o.tables.blocks) o.tables.tokens) o.tables.jobs o.tables.reservations o.last_stamp o.moment w t r in
    let never : ends_operation past c.args.actor c.args.act ≡ false = c.in_err-answer.ensures.ends w t r.free in
    if-err c.from_residual.result _ (λ f same h s.
    let shown = image_shown o.moment o.last_stamp (u.folded + length u.history.entries) (g.B.Blocks.blocks o.tables.blocks) (g.B.Blocks.holds o.tables.blocks) (rods_of g.B.Pins.number (g.B.Blocks.block_length o.tables.blocks) (g.B.Blocks.shown o.tables.blocks) o.tables.tokens).tokens o.tables.jobs o.tables.reservations in
    let stood : StandsFor o.config o.unit shown u.history.entries u.folded h = rw (← c.self.view_is) at (answers_as c.args.self.now h s) in
    let p = c.standing_law.ensures shown u.history.entries u.folded h w stood own in
    rw (← c.self.view_is) (ends-alike (past_of o.config o.unit h) past c.args.actor c.args.act (p.serves c.args.actor c.args.act) ∙ never))

pub returns-in_err-answer-clause-refused : goal.returns-in_err-answer-clause-refused
returns-in_err-answer-clause-refused g c =
    let u = c.self.inside in
    let o = u.core in
    let w = c.self.invariant.0 in
    let t : TablesAgree o.config o.unit (g.B.Blocks.blocks o.tables.blocks) (g.B.Blocks.block_length o.tables.blocks) (g.B.Blocks.holds o.tables.blocks) (rods_of g.B.Pins.number (g.B.Blocks.block_length o.tables.blocks) (g.B.Blocks.shown o.tables.blocks) o.tables.tokens) o.tables.jobs o.tables.reservations o.last_stamp o.moment w = c.self.invariant.1 in
    let r = c.self.invariant.2 in
    let past = past_of o.config o.unit w in
    let known = known-of o.config o.unit w t.record_is in
    let limit = unit_of o.config o.unit in
    let own = stands-own o.config o.unit u.history.entries u.folded u.history.spare u.payload (g.B.Blocks.blocks o.tables.blocks) (g.B.Blocks.block_length o.tables.blocks) (g.B.Blocks.holds o.tables.blocks) (rods_of g.B.Pins.number (g.B.Blocks.block_length o.tables.blocks) (g.B.Blocks.shown o.tables.blocks) o.tables.tokens) o.tables.jobs o.tables.reservations o.last_stamp o.moment w t r in
    let table = table-are g.B.Pins.number (g.B.Blocks.blocks o.tables.blocks) limit.blocks (g.B.Blocks.pinned o.tables.blocks) (g.B.Blocks.written_by o.tables.blocks) o.tables.tokens.tokens past
    (rod_shown g.B.Pins.number (g.B.Blocks.block_length o.tables.blocks) (g.B.Blocks.shown o.tables.blocks)) limit c.self.invariant.3 c.self.invariant.4 (g.B.SharedVersions.shares o.tables.blocks)
    (g.met.B.SharedVersions.told o.tables.blocks c.self.invariant.4.writers c.self.invariant.4.written) t.blocks.count t.tokens.tokens in
    let shown = image_shown o.moment o.last_stamp (u.folded + length u.history.entries) (g.B.Blocks.blocks o.tables.blocks) (g.B.Blocks.holds o.tables.blocks) (rods_of g.B.Pins.number (g.B.Blocks.block_length o.tables.blocks) (g.B.Blocks.shown o.tables.blocks) o.tables.tokens).tokens o.tables.jobs o.tables.reservations in
    let k = c.perform.new.self in
    let after = c.in_err-answer.ensures.same w t in
    let tables : TablesAgree o.config o.unit (g.B.Blocks.blocks k.tables.blocks) (g.B.Blocks.block_length k.tables.blocks) (g.B.Blocks.holds k.tables.blocks) (rods_of g.B.Pins.number (g.B.Blocks.block_length k.tables.blocks) (g.B.Blocks.shown k.tables.blocks) k.tables.tokens) k.tables.jobs k.tables.reservations k.last_stamp k.moment w = rw (c.perform.ensures.config, c.perform.ensures.unit) at after in
    let record_now = record-more o.config o.unit u.history.entries u.folded u.history.spare c.perform.new.history.spare u.payload w r c.perform.ensures.spare in
    let are : AreWriters g.B.Pins.number (g.B.Blocks.written_by k.tables.blocks) k.tables.tokens.tokens (writer_seen past) = c.in_err-answer.ensures.writers w c.self.invariant.4 in
    let own_now = stands-own o.config o.unit u.history.entries u.folded c.perform.new.history.spare u.payload (g.B.Blocks.blocks k.tables.blocks) (g.B.Blocks.block_length k.tables.blocks) (g.B.Blocks.holds k.tables.blocks) (rods_of g.B.Pins.number (g.B.Blocks.block_length k.tables.blocks) (g.B.Blocks.shown k.tables.blocks) k.tables.tokens) k.tables.jobs k.tables.reservations k.last_stamp k.moment w tables record_now in
    let table_now = table-are g.B.Pins.number (g.B.Blocks.blocks k.tables.blocks) limit.blocks (g.B.Blocks.pinned k.tables.blocks) (g.B.Blocks.written_by k.tables.blocks) k.tables.tokens.tokens past
    (rod_shown g.B.Pins.number (g.B.Blocks.block_length k.tables.blocks) (g.B.Blocks.shown k.tables.blocks)) limit c.perform.ensures.pinned are (g.B.SharedVersions.shares k.tables.blocks)
    (g.met.B.SharedVersions.told k.tables.blocks are.writers are.written) tables.blocks.count tables.tokens.tokens in
    let image_now = image_shown k.moment k.last_stamp (u.folded + length u.history.entries) (g.B.Blocks.blocks k.tables.blocks) (g.B.Blocks.holds k.tables.blocks) (rods_of g.B.Pins.number (g.B.Blocks.block_length k.tables.blocks) (g.B.Blocks.shown k.tables.blocks) k.tables.tokens).tokens k.tables.jobs k.tables.reservations in
    let shares_now = shares_table (g.B.Blocks.blocks k.tables.blocks) (length k.tables.tokens.tokens) (shares_shown g.B.Pins.number (g.B.SharedVersions.shares k.tables.blocks) k.tables.tokens.tokens) in
    let state : Image → List (List (List Bool)) → UnitState = λ image same. record { config = o.config; unit = o.unit; kept = u.history.entries; folded = u.folded; image = image; shares = same } in
    on-err c.from_residual.result _ (rw (c.perform.ensures.entries, c.perform.ensures.config, c.perform.ensures.unit)
    (ap (λ i. state i shares_now) (sym own_now.image ∙ own.image)
    ∙ ap (λ x. state shown x) (sym table_now ∙ table)
    ∙ c.self.view_is))

pub returns-clause-stands : goal.returns-clause-stands
returns-clause-stands g c = λ h s.
    let u = c.self.inside in
    let o = u.core in
    let w = c.self.invariant.0 in
    let t : TablesAgree o.config o.unit (g.B.Blocks.blocks o.tables.blocks) (g.B.Blocks.block_length o.tables.blocks) (g.B.Blocks.holds o.tables.blocks) (rods_of g.B.Pins.number (g.B.Blocks.block_length o.tables.blocks) (g.B.Blocks.shown o.tables.blocks) o.tables.tokens) o.tables.jobs o.tables.reservations o.last_stamp o.moment w = c.self.invariant.1 in
    let r = c.self.invariant.2 in
    let past = past_of o.config o.unit w in
    let known = known-of o.config o.unit w t.record_is in
    let limit = unit_of o.config o.unit in
    let own = stands-own o.config o.unit u.history.entries u.folded u.history.spare u.payload (g.B.Blocks.blocks o.tables.blocks) (g.B.Blocks.block_length o.tables.blocks) (g.B.Blocks.holds o.tables.blocks) (rods_of g.B.Pins.number (g.B.Blocks.block_length o.tables.blocks) (g.B.Blocks.shown o.tables.blocks) o.tables.tokens) o.tables.jobs o.tables.reservations o.last_stamp o.moment w t r in
    let shown = image_shown o.moment o.last_stamp (u.folded + length u.history.entries) (g.B.Blocks.blocks o.tables.blocks) (g.B.Blocks.holds o.tables.blocks) (rods_of g.B.Pins.number (g.B.Blocks.block_length o.tables.blocks) (g.B.Blocks.shown o.tables.blocks) o.tables.tokens).tokens o.tables.jobs o.tables.reservations in
    let stood : StandsFor o.config o.unit shown u.history.entries u.folded h = rw (← c.self.view_is) at (answers_as c.args.self.now h s) in
    let p = c.standing_law.ensures shown u.history.entries u.folded h w stood own in
    let table = table-are g.B.Pins.number (g.B.Blocks.blocks o.tables.blocks) limit.blocks (g.B.Blocks.pinned o.tables.blocks) (g.B.Blocks.written_by o.tables.blocks) o.tables.tokens.tokens past
    (rod_shown g.B.Pins.number (g.B.Blocks.block_length o.tables.blocks) (g.B.Blocks.shown o.tables.blocks)) limit c.self.invariant.3 c.self.invariant.4 (g.B.SharedVersions.shares o.tables.blocks)
    (g.met.B.SharedVersions.told o.tables.blocks c.self.invariant.4.writers c.self.invariant.4.written) t.blocks.count t.tokens.tokens in
    let state : UnitState = record {
      config = o.config;
      unit = o.unit;
      kept = u.history.entries;
      folded = u.folded;
      image = image_shown o.moment o.last_stamp (u.folded + length u.history.entries) (g.B.Blocks.blocks o.tables.blocks) (g.B.Blocks.holds o.tables.blocks) (rods_of g.B.Pins.number (g.B.Blocks.block_length o.tables.blocks) (g.B.Blocks.shown o.tables.blocks) o.tables.tokens).tokens o.tables.jobs o.tables.reservations;
      shares = shares_table (g.B.Blocks.blocks o.tables.blocks) (length o.tables.tokens.tokens) (shares_shown g.B.Pins.number (g.B.SharedVersions.shares o.tables.blocks) o.tables.tokens.tokens);
    } in
    let standing : Stands c.args.self.now w = rw (← c.self.view_is) (stands-with state w own table) in
    let e : Entry = record { stamp = c.max-stamp.result + 1; unit = o.unit; actor = c.args.actor; seq = c.args.seq; moment = c.args.moment; act = c.args.act } in
    let asked : IsAsked o.config o.unit (deed o.config o.unit past e) = record { limits = rw (← c.self.view_is) at c.requires.limits; asked = rw (← c.self.view_is) at c.requires.asked } in
    let full : is_full limit u.folded past c.args.actor c.args.stamp c.args.act ≡ false = rw (← c.self.view_is) at (sym (c.is_full.ensures w standing) ∙ c.if-is_full.false) in
    let k = c.perform.new.self in
    let after = c.in_ok-answer.ensures.after w c.args.seq t in
    let tables : TablesAgree o.config o.unit (g.B.Blocks.blocks k.tables.blocks) (g.B.Blocks.block_length k.tables.blocks) (g.B.Blocks.holds k.tables.blocks) (rods_of g.B.Pins.number (g.B.Blocks.block_length k.tables.blocks) (g.B.Blocks.shown k.tables.blocks) k.tables.tokens) k.tables.jobs k.tables.reservations k.last_stamp k.moment (w ++ e ∷ []) = rw (c.perform.ensures.config, c.perform.ensures.unit) at after in
    let count : length past - u.folded ≡ length u.history.entries = length-kept o.config o.unit u.history.entries u.folded w t.record_is.own r.keeps in
    let bytes : payload u.folded past ≡ payload_in u.history.entries = payload-kept o.config o.unit u.history.entries u.folded w t.record_is.own r.keeps in
    let within : payload u.folded past ≤ limit.payload = omega (arith, bytes, r.bytes) in
    let has = room-of limit u.folded past c.args.actor c.args.stamp c.args.act within full in
    let fits : c.max-stamp.result + 1 < 2 ^ 64 = stamp-next c.max-stamp.result c.max-stamp.type_inv (ap (λ (n : ℕ). n == 2 ^ 64 - 1) (c.max-stamp.ensures ∙ ap (max c.args.stamp) t.stamp) ∙ has.stamps) in
    let kept : c.append.new.self.entries ≡ u.history.entries ++ e ∷ [] = c.append.ensures.added ∙ ap (λ l. l ++ e ∷ []) c.perform.ensures.entries in
    let spare : kept_free past + need past c.args.actor c.args.act ≤ c.append.new.self.spare + 1 = omega (arith, c.in_ok-answer.ensures.room w t, c.append.ensures.room) in
    let later : last_stamp past + 1 ≤ c.max-stamp.result + 1 = omega (arith, c.max-stamp.ensures, t.stamp) in
    let record_now = record-step o.config o.unit u.history.entries u.folded u.history.spare c.append.new.self.spare u.payload (u.payload + c.bytes_in.result) w e c.args.stamp
    r t.record_is refl asked later fits full spare (ap (λ n. u.payload + n) c.bytes_in.ensures) in
    let q = c.standing_law.ensures shown u.history.entries u.folded w h own stood in
    let own-now = stands-own o.config o.unit (u.history.entries ++ e ∷ []) u.folded c.append.new.self.spare (u.payload + c.bytes_in.result) (g.B.Blocks.blocks k.tables.blocks) (g.B.Blocks.block_length k.tables.blocks) (g.B.Blocks.holds k.tables.blocks)
    (rods_of g.B.Pins.number (g.B.Blocks.block_length k.tables.blocks) (g.B.Blocks.shown k.tables.blocks) k.tables.tokens) k.tables.jobs k.tables.reservations k.last_stamp k.moment (w ++ e ∷ []) tables record_now in
    let all = subst (λ j. StandsFor o.config o.unit j (u.history.entries ++ e ∷ []) u.folded (h ++ e ∷ [])) own-now.image (q.more e refl asked.limits asked.asked) in
    let are : AreWriters g.B.Pins.number (g.B.Blocks.written_by k.tables.blocks) k.tables.tokens.tokens (writer_seen (past_of o.config o.unit (w ++ e ∷ []))) = c.in_ok-answer.ensures.written w c.args.seq t c.self.invariant.4 in
    let table_now = table-are g.B.Pins.number (g.B.Blocks.blocks k.tables.blocks) limit.blocks (g.B.Blocks.pinned k.tables.blocks) (g.B.Blocks.written_by k.tables.blocks) k.tables.tokens.tokens (past_of o.config o.unit (w ++ e ∷ []))
    (rod_shown g.B.Pins.number (g.B.Blocks.block_length k.tables.blocks) (g.B.Blocks.shown k.tables.blocks)) limit c.perform.ensures.pinned are (g.B.SharedVersions.shares k.tables.blocks)
    (g.met.B.SharedVersions.told k.tables.blocks are.writers are.written) tables.blocks.count tables.tokens.tokens in
    let its : shared_by limit.blocks (past_of o.config o.unit h) ≡ state.shares = (subst (λ (v : UnitState). Stands v h) (sym c.self.view_is) s).versions in
    let images = own.image ∙ sym stood.image in
    let images_now = own-now.image ∙ sym all.image in
    let alike = shared-alike limit past (past_of o.config o.unit h) images (table ∙ sym its) in
    let later = alike-step o.config o.unit limit.blocks w h e refl images images_now (sym (p.alike c.args.actor c.args.moment c.args.act)) alike in
    let shared = sym (alike-shared limit (past_of o.config o.unit (w ++ e ∷ [])) (past_of o.config o.unit (h ++ e ∷ [])) images_now later) ∙ table_now in
    rw (← c.self.view_is, ← c.max-stamp.ensures, kept, c.perform.ensures.config, c.perform.ensures.unit) (record { own = all.own; asked = all.asked; image = all.image; keeps = all.keeps; few = all.few; versions = shared })

pub returns-clause-redeems : goal.returns-clause-redeems
returns-clause-redeems g c = λ h s text target x e may.
    let u = c.self.inside in
    let o = u.core in
    let w = c.self.invariant.0 in
    let t : TablesAgree o.config o.unit (g.B.Blocks.blocks o.tables.blocks) (g.B.Blocks.block_length o.tables.blocks) (g.B.Blocks.holds o.tables.blocks) (rods_of g.B.Pins.number (g.B.Blocks.block_length o.tables.blocks) (g.B.Blocks.shown o.tables.blocks) o.tables.tokens) o.tables.jobs o.tables.reservations o.last_stamp o.moment w = c.self.invariant.1 in
    let r = c.self.invariant.2 in
    let past = past_of o.config o.unit w in
    let known = known-of o.config o.unit w t.record_is in
    let limit = unit_of o.config o.unit in
    let own = stands-own o.config o.unit u.history.entries u.folded u.history.spare u.payload (g.B.Blocks.blocks o.tables.blocks) (g.B.Blocks.block_length o.tables.blocks) (g.B.Blocks.holds o.tables.blocks) (rods_of g.B.Pins.number (g.B.Blocks.block_length o.tables.blocks) (g.B.Blocks.shown o.tables.blocks) o.tables.tokens) o.tables.jobs o.tables.reservations o.last_stamp o.moment w t r in
    let shown = image_shown o.moment o.last_stamp (u.folded + length u.history.entries) (g.B.Blocks.blocks o.tables.blocks) (g.B.Blocks.holds o.tables.blocks) (rods_of g.B.Pins.number (g.B.Blocks.block_length o.tables.blocks) (g.B.Blocks.shown o.tables.blocks) o.tables.tokens).tokens o.tables.jobs o.tables.reservations in
    let stood : StandsFor o.config o.unit shown u.history.entries u.folded h = rw (← c.self.view_is) at (answers_as c.args.self.now h s) in
    let p = c.standing_law.ensures shown u.history.entries u.folded h w stood own in
    let seen : UnitState = record { config = o.config; unit = o.unit; kept = u.history.entries; folded = u.folded; image = shown; shares = shares_table (g.B.Blocks.blocks o.tables.blocks) (length o.tables.tokens.tokens) (shares_shown g.B.Pins.number (g.B.SharedVersions.shares o.tables.blocks) o.tables.tokens.tokens) } in
    let may' : MayRedeem seen h c.args.moment text target x = rw (← c.self.view_is) at may in
    rw (← c.self.view_is) (c.in_ok-answer.ensures.answer w t ∙ sym (p.alike c.args.actor c.args.moment c.args.act)
    ∙ ap (answer_after o.config o.unit (past_of o.config o.unit h) c.args.actor c.args.moment) e
    ∙ redeem-given seen h c.args.actor c.args.moment text target x may')

pub returns-clause-form : goal.returns-clause-form
returns-clause-form g c =
    let u = c.self.inside in
    let o = u.core in
    let w = c.self.invariant.0 in
    let t : TablesAgree o.config o.unit (g.B.Blocks.blocks o.tables.blocks) (g.B.Blocks.block_length o.tables.blocks) (g.B.Blocks.holds o.tables.blocks) (rods_of g.B.Pins.number (g.B.Blocks.block_length o.tables.blocks) (g.B.Blocks.shown o.tables.blocks) o.tables.tokens) o.tables.jobs o.tables.reservations o.last_stamp o.moment w = c.self.invariant.1 in
    let r = c.self.invariant.2 in
    let past = past_of o.config o.unit w in
    let known = known-of o.config o.unit w t.record_is in
    let limit = unit_of o.config o.unit in
    let told : c.in_ok-answer.answer ≡ answer_after o.config o.unit past c.args.actor c.args.moment c.args.act = c.in_ok-answer.ensures.answer w t in
    rw (← c.self.view_is) (subst (HasForm o.config o.unit c.args.act) (sym told) (answer-formed o.config w o.unit c.args.actor c.args.moment c.args.act t.record_is))
