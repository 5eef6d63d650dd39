use Rattle.std.proofs.Common.{◌≡◌, ◌≤◌, ◌<◌, ◌+◌, ℕ, List, length, true, false, Bool, ◌∙◌, ap, refl, sym, subst, arith}
use Rattle.std.specs.Prelude.{max}
use Rattle.cm_base.specs.Units.{unit_of}
use Rattle.lba_ranges.specs.HeldBlocks.{HeldBlocks}
use Rattle.cm_history.specs.declared.act.Act.{Act}
use Rattle.cm_history.specs.declared.act.Actor.{Actor}
use Rattle.cm_history.specs.declared.act.Entry.{Entry}
use Rattle.cm_history.specs.Operations.{would_serve}
use Rattle.cm_history.specs.Asked.{IsAsked}
use Rattle.cm_history.specs.Deeds.{Deed, moment}
use Rattle.cm_history.specs.Answers.{deed}
use Rattle.cm_history.specs.Ends.{ends_operation}
use Rattle.cm_history.specs.History.{past_of}
use Rattle.cm_history.specs.Room.{kept_free, need}
use Rattle.copy_jobs.specs.Jobs as jobs
use Rattle.rod_store.specs.declared.kept.Kept.{Kept}
use Rattle.unit_core.specs.inner.Agreeing.{TablesAgree}
use Rattle.unit_core.specs.inner.Planning.{IsPlan, takes_none}
use Rattle.unit_core.specs.inner.Tables.{tokens_of}
use Rattle.rod_store.specs.TokenChanges.{MayToken, tokens_after}
use Rattle.rod_store.specs.Pinning.{rods_of, rod_now, rod_shown}
use Rattle.unit_core.proofs.Changing.{on-err}
use Rattle.unit_core.proofs.Planned.{ends-serves}
use Rattle.unit_core.proofs.Reserving.{reserved-is}
use Rattle.unit_core.proofs.Rooms.{need-served}
use Rattle.unit_core.proofs.Steps.{Done, known-of, tables-same, tables-step}
use Rattle.unit_core.proofs.TableAnswers.{some-there}
use Rattle.unit_core.proofs.Needed.{next-new}
use Rattle.unit_core.proofs.WriterSteps.{writers-step}
use Rattle.unit_core.proofs.Writers.{placed}
use Rattle.unit_core.proofs.inner.Core.perform.Goals as goal

-- where room is wanted for no act that ends an operation
never-short : (past : List Deed) (actor : Actor) (act : Act) (spare own more : ℕ) → own ≡ kept_free past → more ≡ need past actor act → kept_free past ≤ spare → spare < own + more
    → (t : Bool) → ends_operation past actor act ≡ t → t ≡ false
never-short past actor act spare own more free needed room short false e = refl
never-short past actor act spare own more free needed room short true e =
    let there = some-there (would_serve past actor act) (ends-serves past actor act e) in
    let none = need-served past actor act there.item there.is in
    let no : ⊥ = omega (arith, free, needed, room, short, none) in
    absurd no

off-unless : (t u : Bool) → (t ≡ true → u ≡ true) → u ≡ false → t ≡ false
off-unless true u h e = let no = sym (h refl) ∙ e in cc
off-unless false u h e = refl

pub returns-in_err-reserve-clause-ends : goal.returns-in_err-reserve-clause-ends
returns-in_err-reserve-clause-ends g c = on-err c.from_residual.result _ (λ h t room.
    let o = c.args.self.now in
    let past = past_of o.config o.unit h in
    let known = known-of o.config o.unit h t.record_is in
    never-short past c.args.actor c.args.act.now c.args.history.now.spare c.reserved.result c.need.result
    (c.reserved.ensures.reserved ∙ ap jobs.reserved t.jobs ∙ reserved-is o.config o.unit past known.is) (c.need.ensures.need h t) room c.in_err-reserve.ensures.needed
    (ends_operation past c.args.actor c.args.act.now) refl)

pub change-requires-clause-tokens : goal.change-requires-clause-tokens
change-requires-clause-tokens g c =
    let o = c.args.self.now in
    let w = c.requires.known.0 in
    let t : TablesAgree o.config o.unit (g.B.Blocks.blocks o.tables.blocks) (g.B.Blocks.block_length o.tables.blocks) (g.B.Blocks.holds o.tables.blocks) (rods_of g.B.Pins.number (g.B.Blocks.block_length o.tables.blocks) (g.B.Blocks.shown o.tables.blocks) o.tables.tokens) o.tables.jobs o.tables.reservations o.last_stamp o.moment w = c.requires.known.1 in
    let past = past_of o.config o.unit w in
    let limit = unit_of o.config o.unit in
    let planned : IsPlan o.config o.unit past c.args.actor c.args.moment c.args.act.now c.in_ok-plan.plan = c.in_ok-plan.ensures.planned w t in
    let now : c.max-now.result ≡ max c.args.moment (moment past) = c.max-now.ensures ∙ ap (max c.args.moment) t.moment in
    let k = c.in_ok-plan.plan.tokens in
    λ spare h. (let may = planned.may_tokens spare h in
    let moved = subst (λ (n : ℕ). MayToken (record { unit = o.unit; tokens = tokens_of limit past; spare = spare }) n k) (sym now) may in
    let owned = subst (λ (n : ℕ). MayToken (record { unit = n; tokens = tokens_of limit past; spare = spare }) c.max-now.result k) (sym t.tokens.unit) moved in
    subst (λ (l : List (Kept HeldBlocks)). MayToken (record { unit = o.tables.tokens.unit; tokens = l; spare = spare }) c.max-now.result k) (sym t.tokens.tokens) owned)

pub returns-in_err-answer-clause-same : goal.returns-in_err-answer-clause-same
returns-in_err-answer-clause-same g c = on-err c.from_residual-in_err-answer.result _ (λ h t.
    let o = c.args.self.now in
    let k = c.change.new.self in
    tables-same o.config o.unit h (g.B.Blocks.blocks o.tables.blocks) (g.B.Blocks.block_length o.tables.blocks) (g.B.Blocks.blocks k.blocks) (g.B.Blocks.block_length k.blocks) (g.B.Blocks.holds o.tables.blocks) (g.B.Blocks.holds k.blocks)
    (rods_of g.B.Pins.number (g.B.Blocks.block_length o.tables.blocks) (g.B.Blocks.shown o.tables.blocks) o.tables.tokens) (rods_of g.B.Pins.number (g.B.Blocks.block_length k.blocks) (g.B.Blocks.shown k.blocks) k.tokens) o.tables.jobs k.jobs o.tables.reservations k.reservations
    o.last_stamp o.moment t c.change.ensures.blocks c.change.ensures.length c.in_err-answer.ensures.same_blocks c.change.ensures.unit c.in_err-answer.ensures.same_tokens c.in_err-answer.ensures.same_jobs c.in_err-answer.ensures.same_reservations)

pub returns-in_err-answer-clause-writers : goal.returns-in_err-answer-clause-writers
returns-in_err-answer-clause-writers g c = on-err c.from_residual-in_err-answer.result _ (λ h were.
    let left = c.in_err-answer.ensures.writers were.writers were.written in
    record { writers = left.writers; written = left.written; same = λ s b. left.same s b ∙ were.same s b })

pub returns-in_err-answer-clause-ends : goal.returns-in_err-answer-clause-ends
returns-in_err-answer-clause-ends g c = on-err c.from_residual-in_err-answer.result _ (λ h t room.
    let o = c.args.self.now in
    let past = past_of o.config o.unit h in
    let planned : IsPlan o.config o.unit past c.args.actor c.args.moment c.args.act.now c.in_ok-plan.plan = c.in_ok-plan.ensures.planned h t in
    off-unless (ends_operation past c.args.actor c.args.act.now) (takes_none c.in_ok-plan.plan) planned.ends c.in_err-answer.ensures.memory)

pub returns-clause-after : goal.returns-clause-after
returns-clause-after g c = λ h seq t.
    let o = c.args.self.now in
    let k = c.change.new.self in
    let past = past_of o.config o.unit h in
    let e : Entry = record { stamp = c.args.stamp; unit = o.unit; actor = c.args.actor; seq = seq; moment = c.args.moment; act = c.args.act.now } in
    let asked : IsAsked o.config o.unit (deed o.config o.unit past e) = record { limits = c.requires.limits; asked = c.requires.asked } in
    let now : c.max-now.result ≡ max c.args.moment (moment past) = c.max-now.ensures ∙ ap (max c.args.moment) t.moment in
    let done : Done o.config o.unit h e c.in_ok-plan.plan (g.B.Blocks.blocks o.tables.blocks) (g.B.Blocks.block_length o.tables.blocks) (g.B.Blocks.blocks k.blocks) (g.B.Blocks.block_length k.blocks)
    (g.B.Blocks.holds o.tables.blocks) (g.B.Blocks.holds k.blocks) (rods_of g.B.Pins.number (g.B.Blocks.block_length o.tables.blocks) (g.B.Blocks.shown o.tables.blocks) o.tables.tokens) (rods_of g.B.Pins.number (g.B.Blocks.block_length k.blocks) (g.B.Blocks.shown k.blocks) k.tokens) o.tables.jobs k.jobs o.tables.reservations k.reservations = record {
      planned = c.in_ok-plan.ensures.planned h t;
      count = c.change.ensures.blocks;
      long = c.change.ensures.length;
      put = c.in_ok-answer.ensures.wrote;
      own = c.change.ensures.unit;
      kept = c.in_ok-answer.ensures.tokens ∙ ap (λ n. tokens_after (rod_now (g.B.Blocks.block_length o.tables.blocks) (g.B.Blocks.holds o.tables.blocks)) c.in_ok-plan.plan.tokens n (rods_of g.B.Pins.number (g.B.Blocks.block_length o.tables.blocks) (g.B.Blocks.shown o.tables.blocks) o.tables.tokens).tokens) now;
      changed = c.in_ok-answer.ensures.jobs;
      reserved = c.in_ok-answer.ensures.reservations;
    } in
    tables-step o.config o.unit h e c.in_ok-plan.plan
    (g.B.Blocks.blocks o.tables.blocks) (g.B.Blocks.block_length o.tables.blocks) (g.B.Blocks.blocks k.blocks) (g.B.Blocks.block_length k.blocks) (g.B.Blocks.holds o.tables.blocks) (g.B.Blocks.holds k.blocks) (rods_of g.B.Pins.number (g.B.Blocks.block_length o.tables.blocks) (g.B.Blocks.shown o.tables.blocks) o.tables.tokens) (rods_of g.B.Pins.number (g.B.Blocks.block_length k.blocks) (g.B.Blocks.shown k.blocks) k.tokens) o.tables.jobs k.jobs o.tables.reservations k.reservations
    o.last_stamp o.moment c.max-now.result t refl asked done c.max-now.ensures

pub returns-clause-written : goal.returns-clause-written
returns-clause-written g c = λ h seq t were.
    let o = c.args.self.now in
    let k = c.change.new.self in
    let past = past_of o.config o.unit h in
    let known = known-of o.config o.unit h t.record_is in
    let e : Entry = record { stamp = c.args.stamp; unit = o.unit; actor = c.args.actor; seq = seq; moment = c.args.moment; act = c.args.act.now } in
    let tables = returns-clause-after g c h seq t in
    let changed = c.in_ok-answer.ensures.written were.writers (length past) were.written
    (next-new g.B.Pins.number (g.B.Blocks.blocks o.tables.blocks) (g.B.Blocks.pinned o.tables.blocks) (g.B.Blocks.written_by o.tables.blocks) o.tables.tokens.tokens past c.requires.pinned were (placed o.config o.unit past known.is)) in
    writers-step g.B.Pins.number o.config o.unit h e c.in_ok-plan.plan (g.B.Blocks.written_by o.tables.blocks) (g.B.Blocks.written_by k.blocks) o.tables.tokens.tokens k.tokens.tokens
    (rod_shown g.B.Pins.number (g.B.Blocks.block_length o.tables.blocks) (g.B.Blocks.shown o.tables.blocks)) (rod_shown g.B.Pins.number (g.B.Blocks.block_length k.blocks) (g.B.Blocks.shown k.blocks))
    were refl (c.in_ok-plan.ensures.planned h t) t.tokens.tokens tables.tokens.tokens changed

pub returns-clause-answer : goal.returns-clause-answer
returns-clause-answer g c = λ h t. c.in_ok-answer.ensures.answer ∙ (c.in_ok-plan.ensures.planned h t).answer

pub returns-clause-room : goal.returns-clause-room
returns-clause-room g c = λ h t.
    let o = c.args.self.now in
    let past = past_of o.config o.unit h in
    let known = known-of o.config o.unit h t.record_is in
    let free : c.reserved.result ≡ kept_free past = c.reserved.ensures.reserved ∙ ap jobs.reserved t.jobs ∙ reserved-is o.config o.unit past known.is in
    let needed : c.need.result ≡ need past c.args.actor c.args.act.now = c.need.ensures.need h t in
    omega (arith, free, needed, c.in_ok-reserve.ensures.room)
