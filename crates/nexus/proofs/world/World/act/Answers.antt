use Rattle.std.proofs.Common.{◌≡◌, ap, sym, ◌∙◌, subst, arith, slice_set, true}
use Rattle.cm_history.specs.Legal.{may_ask}
use Rattle.cm_history.specs.Limits.{within_limits}
use Rattle.unit_gate.specs.declared.kin.UnitKin.{UnitKin}
use Rattle.unit_gate.specs.Asking.{IsServed as IsServedAt}
use Rattle.unit_gate.specs.SeatActs.{HasActed, IsSaved as IsSavedAt, IsRefused}
use Rattle.nexus.specs.Worlds.{UnitGate, PassView, WasAnswered, IsSaved, IsServed, NotDone, Stays}
use Rattle.nexus.specs.inner.Gates.{config_of}
use Rattle.nexus.specs.inner.Keeping.{gates_of, pass_view, KeepsPass}
use Rattle.nexus.proofs.Acted.{asking, done}
use Rattle.nexus.proofs.NotDone.{refused, refused-keeps, saved, served}
use Rattle.nexus.proofs.Safe.{acted-safe, refused-safe, set-safe}
use Rattle.nexus.proofs.Staying.{stays-answered, stays-refused}
use Rattle.nexus.proofs.Turning.{place, if-some, some-if}
use Rattle.nexus.proofs.world.World.act.Goals as goal

pub act-requires-clause-limits : goal.act-requires-clause-limits
act-requires-clause-limits g c =
    let p = place c.self.inside.gates.items c.self.inside.register c.index-gate.result.now c.pass.inside.slip c.pass.inside.seats.items c.index_mut-seat.result.now c.pass.inside.actor c.pass.inside.seq c.pass.inside.last_stamp
    c.args.act c.args.unit c.from-index.result c.args.self.now c.args.pass.now c.self.view_is c.pass.view_is c.pass.invariant.0 c.requires.pass c.requires.configured c.requires.limits c.requires.asked
    c.from-index.ensures c.index-gate.ensures c.index_mut-seat.ensures.value in
    some-if (λ k. within_limits k.config k.unit c.args.act ≡ true) c.index-gate.result.now.kin p.kin p.has (ap (λ (k : UnitKin). within_limits k.config k.unit c.args.act) p.kin_is ∙ p.limits)

pub act-requires-clause-asked : goal.act-requires-clause-asked
act-requires-clause-asked g c =
    let p = place c.self.inside.gates.items c.self.inside.register c.index-gate.result.now c.pass.inside.slip c.pass.inside.seats.items c.index_mut-seat.result.now c.pass.inside.actor c.pass.inside.seq c.pass.inside.last_stamp
    c.args.act c.args.unit c.from-index.result c.args.self.now c.args.pass.now c.self.view_is c.pass.view_is c.pass.invariant.0 c.requires.pass c.requires.configured c.requires.limits c.requires.asked
    c.from-index.ensures c.index-gate.ensures c.index_mut-seat.ensures.value in
    some-if (λ k. may_ask k.unit c.pass.inside.actor c.args.act ≡ true) c.index-gate.result.now.kin p.kin p.has
    (ap (λ (k : UnitKin). may_ask k.unit c.pass.inside.actor c.args.act) p.kin_is ∙ ap (λ a. may_ask c.from-index.result a c.args.act) c.pass.invariant.0.actor_is ∙ p.asked)

pub next_seq-pass-inside-requires : goal.next_seq-pass-inside-requires
next_seq-pass-inside-requires g c =
    let p = place c.self.inside.gates.items c.self.inside.register c.index-gate.result.now c.pass.inside.slip c.pass.inside.seats.items c.index_mut-seat.result.now c.pass.inside.actor c.pass.inside.seq c.pass.inside.last_stamp
    c.args.act c.args.unit c.from-index.result c.args.self.now c.args.pass.now c.self.view_is c.pass.view_is c.pass.invariant.0 c.requires.pass c.requires.configured c.requires.limits c.requires.asked
    c.from-index.ensures c.index-gate.ensures c.index_mut-seat.ensures.value in
    let did = subst (λ k. HasActed k c.index_mut-seat.result.now c.act.new.seat (asking c.pass.inside.actor c.pass.inside.seq c.pass.inside.last_stamp c.args.moment c.args.act) c.in-Ok.field-0) p.kin_is
    (if-some (λ k. HasActed k c.index_mut-seat.result.now c.act.new.seat (asking c.pass.inside.actor c.pass.inside.seq c.pass.inside.last_stamp c.args.moment c.args.act) c.in-Ok.field-0)
    c.index-gate.result.now.kin p.kin p.has c.in-Ok.ensures.done) in
    let d = done c.pass.inside.slip c.pass.inside.seats.items c.pass.inside.actor c.pass.inside.seq c.pass.inside.last_stamp c.pass.invariant.0 c.from-index.result c.index_mut-seat.result.now c.act.new.seat p.low
    c.index_mut-seat.ensures.value p.kin c.args.moment c.args.act c.in-Ok.field-0 p.limits p.asked did in
    let low = d.low in
    omega (arith, low)

pub invariant_of-pass : goal.invariant_of-pass
invariant_of-pass g c =
    let p = place c.self.inside.gates.items c.self.inside.register c.index-gate.result.now c.pass.inside.slip c.pass.inside.seats.items c.index_mut-seat.result.now c.pass.inside.actor c.pass.inside.seq c.pass.inside.last_stamp
    c.args.act c.args.unit c.from-index.result c.args.self.now c.args.pass.now c.self.view_is c.pass.view_is c.pass.invariant.0 c.requires.pass c.requires.configured c.requires.limits c.requires.asked
    c.from-index.ensures c.index-gate.ensures c.index_mut-seat.ensures.value in
    let did = subst (λ k. HasActed k c.index_mut-seat.result.now c.act.new.seat (asking c.pass.inside.actor c.pass.inside.seq c.pass.inside.last_stamp c.args.moment c.args.act) c.in-Ok.field-0) p.kin_is
    (if-some (λ k. HasActed k c.index_mut-seat.result.now c.act.new.seat (asking c.pass.inside.actor c.pass.inside.seq c.pass.inside.last_stamp c.args.moment c.args.act) c.in-Ok.field-0)
    c.index-gate.result.now.kin p.kin p.has c.in-Ok.ensures.done) in
    let d = done c.pass.inside.slip c.pass.inside.seats.items c.pass.inside.actor c.pass.inside.seq c.pass.inside.last_stamp c.pass.invariant.0 c.from-index.result c.index_mut-seat.result.now c.act.new.seat p.low
    c.index_mut-seat.ensures.value p.kin c.args.moment c.args.act c.in-Ok.field-0 p.limits p.asked did in
    let has = ap (λ (g : UnitGate). g.kin) p.gate_is ∙ p.has in
    let acted = if-some (λ k. HasActed k c.index_mut-seat.result.now c.act.new.seat (asking c.pass.inside.actor c.pass.inside.seq c.pass.inside.last_stamp c.args.moment c.args.act) c.in-Ok.field-0) c.index-gate.result.now.kin p.kin p.has c.in-Ok.ensures.done in
    let kept = if-some (λ k. IsSavedAt _ k c.index_mut-seat.result.now c.act.new.seat) c.index-gate.result.now.kin p.kin p.has c.in-Ok.ensures.saved in (
      subst (λ n. KeepsPass (config_of (gates_of (slice_set c.pass.inside.seats.items c.from-index.result c.act.new.seat))) c.pass.inside.slip.ticket (slice_set c.pass.inside.seats.items c.from-index.result c.act.new.seat)
          c.pass.inside.actor n c.in-Ok.field-0.stamp) (sym c.next_seq-pass-inside.ensures) d.keeps,
      set-safe _ c.pass.inside.seats.items c.from-index.result c.index_mut-seat.result.now c.act.new.seat p.low c.index_mut-seat.ensures.value (acted-safe p.kin c.index_mut-seat.result.now c.act.new.seat (asking c.pass.inside.actor c.pass.inside.seq c.pass.inside.last_stamp c.args.moment c.args.act) c.in-Ok.field-0 acted _ has kept) c.pass.invariant.1,
    )

pub invariant_of-pass-in-Err : goal.invariant_of-pass-in-Err
invariant_of-pass-in-Err g c =
    let p = place c.self.inside.gates.items c.self.inside.register c.index-gate.result.now c.pass.inside.slip c.pass.inside.seats.items c.index_mut-seat.result.now c.pass.inside.actor c.pass.inside.seq c.pass.inside.last_stamp
    c.args.act c.args.unit c.from-index.result c.args.self.now c.args.pass.now c.self.view_is c.pass.view_is c.pass.invariant.0 c.requires.pass c.requires.configured c.requires.limits c.requires.asked
    c.from-index.ensures c.index-gate.ensures c.index_mut-seat.ensures.value in
    let was = subst (λ k. IsRefused k c.index_mut-seat.result.now c.act.new.seat (asking c.pass.inside.actor c.pass.inside.seq c.pass.inside.last_stamp c.args.moment c.args.act) c.in-Err.refused) p.kin_is
    (if-some (λ k. IsRefused k c.index_mut-seat.result.now c.act.new.seat (asking c.pass.inside.actor c.pass.inside.seq c.pass.inside.last_stamp c.args.moment c.args.act) c.in-Err.refused)
    c.index-gate.result.now.kin p.kin p.has c.in-Err.ensures.refused) in
    let has = ap (λ (g : UnitGate). g.kin) p.gate_is ∙ p.has in
    let refusal = if-some (λ k. IsRefused k c.index_mut-seat.result.now c.act.new.seat (asking c.pass.inside.actor c.pass.inside.seq c.pass.inside.last_stamp c.args.moment c.args.act) c.in-Err.refused) c.index-gate.result.now.kin p.kin p.has c.in-Err.ensures.refused in (
      refused-keeps c.pass.inside.slip c.pass.inside.seats.items c.pass.inside.actor c.pass.inside.seq c.pass.inside.last_stamp c.pass.invariant.0 c.from-index.result c.index_mut-seat.result.now c.act.new.seat p.low
          c.index_mut-seat.ensures.value p.kin has c.args.moment c.args.act c.in-Err.refused was,
      set-safe _ c.pass.inside.seats.items c.from-index.result c.index_mut-seat.result.now c.act.new.seat p.low c.index_mut-seat.ensures.value (refused-safe _ p.kin c.index_mut-seat.result.now c.act.new.seat (asking c.pass.inside.actor c.pass.inside.seq c.pass.inside.last_stamp c.args.moment c.args.act) c.in-Err.refused refusal) c.pass.invariant.1,
    )

pub returns-in-Ok-clause-done : goal.returns-in-Ok-clause-done
returns-in-Ok-clause-done g c =
    let p = place c.self.inside.gates.items c.self.inside.register c.index-gate.result.now c.pass.inside.slip c.pass.inside.seats.items c.index_mut-seat.result.now c.pass.inside.actor c.pass.inside.seq c.pass.inside.last_stamp
    c.args.act c.args.unit c.from-index.result c.args.self.now c.args.pass.now c.self.view_is c.pass.view_is c.pass.invariant.0 c.requires.pass c.requires.configured c.requires.limits c.requires.asked
    c.from-index.ensures c.index-gate.ensures c.index_mut-seat.ensures.value in
    let did = subst (λ k. HasActed k c.index_mut-seat.result.now c.act.new.seat (asking c.pass.inside.actor c.pass.inside.seq c.pass.inside.last_stamp c.args.moment c.args.act) c.in-Ok.field-0) p.kin_is
    (if-some (λ k. HasActed k c.index_mut-seat.result.now c.act.new.seat (asking c.pass.inside.actor c.pass.inside.seq c.pass.inside.last_stamp c.args.moment c.args.act) c.in-Ok.field-0)
    c.index-gate.result.now.kin p.kin p.has c.in-Ok.ensures.done) in
    let d = done c.pass.inside.slip c.pass.inside.seats.items c.pass.inside.actor c.pass.inside.seq c.pass.inside.last_stamp c.pass.invariant.0 c.from-index.result c.index_mut-seat.result.now c.act.new.seat p.low
    c.index_mut-seat.ensures.value p.kin c.args.moment c.args.act c.in-Ok.field-0 p.limits p.asked did in
    subst (λ u. WasAnswered c.args.pass.now (pass_view (config_of (gates_of (slice_set c.pass.inside.seats.items c.from-index.result c.act.new.seat))) c.pass.inside.slip (slice_set c.pass.inside.seats.items c.from-index.result c.act.new.seat)) u c.args.moment c.args.act c.in-Ok.field-0.answer) c.from-index.ensures
    (subst (λ (b : PassView). WasAnswered b (pass_view (config_of (gates_of (slice_set c.pass.inside.seats.items c.from-index.result c.act.new.seat))) c.pass.inside.slip (slice_set c.pass.inside.seats.items c.from-index.result c.act.new.seat)) c.from-index.result c.args.moment c.args.act c.in-Ok.field-0.answer) c.pass.view_is d.answered)

pub returns-in-Err-clause-refused : goal.returns-in-Err-clause-refused
returns-in-Err-clause-refused g c =
    let p = place c.self.inside.gates.items c.self.inside.register c.index-gate.result.now c.pass.inside.slip c.pass.inside.seats.items c.index_mut-seat.result.now c.pass.inside.actor c.pass.inside.seq c.pass.inside.last_stamp
    c.args.act c.args.unit c.from-index.result c.args.self.now c.args.pass.now c.self.view_is c.pass.view_is c.pass.invariant.0 c.requires.pass c.requires.configured c.requires.limits c.requires.asked
    c.from-index.ensures c.index-gate.ensures c.index_mut-seat.ensures.value in
    let was = subst (λ k. IsRefused k c.index_mut-seat.result.now c.act.new.seat (asking c.pass.inside.actor c.pass.inside.seq c.pass.inside.last_stamp c.args.moment c.args.act) c.in-Err.refused) p.kin_is
    (if-some (λ k. IsRefused k c.index_mut-seat.result.now c.act.new.seat (asking c.pass.inside.actor c.pass.inside.seq c.pass.inside.last_stamp c.args.moment c.args.act) c.in-Err.refused)
    c.index-gate.result.now.kin p.kin p.has c.in-Err.ensures.refused) in
    let has = ap (λ (g : UnitGate). g.kin) p.gate_is ∙ p.has in
    subst (λ u. NotDone c.args.pass.now (pass_view (config_of (gates_of (slice_set c.pass.inside.seats.items c.from-index.result c.act.new.seat))) c.pass.inside.slip (slice_set c.pass.inside.seats.items c.from-index.result c.act.new.seat)) u c.args.act c.in-Err.refused) c.from-index.ensures
    (subst (λ (b : PassView). NotDone b (pass_view (config_of (gates_of (slice_set c.pass.inside.seats.items c.from-index.result c.act.new.seat))) c.pass.inside.slip (slice_set c.pass.inside.seats.items c.from-index.result c.act.new.seat)) c.from-index.result c.args.act c.in-Err.refused) c.pass.view_is
    (refused c.pass.inside.slip c.pass.inside.seats.items c.pass.inside.actor c.pass.inside.seq c.pass.inside.last_stamp c.pass.invariant.0 c.from-index.result c.index_mut-seat.result.now c.act.new.seat p.low
    c.index_mut-seat.ensures.value p.kin has c.args.moment c.args.act c.in-Err.refused was))

pub returns-in-Ok-clause-stays : goal.returns-in-Ok-clause-stays
returns-in-Ok-clause-stays g c =
    let p = place c.self.inside.gates.items c.self.inside.register c.index-gate.result.now c.pass.inside.slip c.pass.inside.seats.items c.index_mut-seat.result.now c.pass.inside.actor c.pass.inside.seq c.pass.inside.last_stamp
    c.args.act c.args.unit c.from-index.result c.args.self.now c.args.pass.now c.self.view_is c.pass.view_is c.pass.invariant.0 c.requires.pass c.requires.configured c.requires.limits c.requires.asked
    c.from-index.ensures c.index-gate.ensures c.index_mut-seat.ensures.value in
    let did = subst (λ k. HasActed k c.index_mut-seat.result.now c.act.new.seat (asking c.pass.inside.actor c.pass.inside.seq c.pass.inside.last_stamp c.args.moment c.args.act) c.in-Ok.field-0) p.kin_is
    (if-some (λ k. HasActed k c.index_mut-seat.result.now c.act.new.seat (asking c.pass.inside.actor c.pass.inside.seq c.pass.inside.last_stamp c.args.moment c.args.act) c.in-Ok.field-0)
    c.index-gate.result.now.kin p.kin p.has c.in-Ok.ensures.done) in
    let d = done c.pass.inside.slip c.pass.inside.seats.items c.pass.inside.actor c.pass.inside.seq c.pass.inside.last_stamp c.pass.invariant.0 c.from-index.result c.index_mut-seat.result.now c.act.new.seat p.low
    c.index_mut-seat.ensures.value p.kin c.args.moment c.args.act c.in-Ok.field-0 p.limits p.asked did in
    subst (λ (b : PassView). Stays b (pass_view (config_of (gates_of (slice_set c.pass.inside.seats.items c.from-index.result c.act.new.seat))) c.pass.inside.slip (slice_set c.pass.inside.seats.items c.from-index.result c.act.new.seat))) c.pass.view_is
    (stays-answered (pass_view (config_of (gates_of c.pass.inside.seats.items)) c.pass.inside.slip c.pass.inside.seats.items) (pass_view (config_of (gates_of (slice_set c.pass.inside.seats.items c.from-index.result c.act.new.seat))) c.pass.inside.slip (slice_set c.pass.inside.seats.items c.from-index.result c.act.new.seat)) c.from-index.result c.args.moment c.args.act c.in-Ok.field-0.answer d.answered)

pub returns-in-Err-clause-stays : goal.returns-in-Err-clause-stays
returns-in-Err-clause-stays g c =
    let p = place c.self.inside.gates.items c.self.inside.register c.index-gate.result.now c.pass.inside.slip c.pass.inside.seats.items c.index_mut-seat.result.now c.pass.inside.actor c.pass.inside.seq c.pass.inside.last_stamp
    c.args.act c.args.unit c.from-index.result c.args.self.now c.args.pass.now c.self.view_is c.pass.view_is c.pass.invariant.0 c.requires.pass c.requires.configured c.requires.limits c.requires.asked
    c.from-index.ensures c.index-gate.ensures c.index_mut-seat.ensures.value in
    let was = subst (λ k. IsRefused k c.index_mut-seat.result.now c.act.new.seat (asking c.pass.inside.actor c.pass.inside.seq c.pass.inside.last_stamp c.args.moment c.args.act) c.in-Err.refused) p.kin_is
    (if-some (λ k. IsRefused k c.index_mut-seat.result.now c.act.new.seat (asking c.pass.inside.actor c.pass.inside.seq c.pass.inside.last_stamp c.args.moment c.args.act) c.in-Err.refused)
    c.index-gate.result.now.kin p.kin p.has c.in-Err.ensures.refused) in
    let has = ap (λ (g : UnitGate). g.kin) p.gate_is ∙ p.has in
    subst (λ (b : PassView). Stays b (pass_view (config_of (gates_of (slice_set c.pass.inside.seats.items c.from-index.result c.act.new.seat))) c.pass.inside.slip (slice_set c.pass.inside.seats.items c.from-index.result c.act.new.seat))) c.pass.view_is
    (stays-refused (pass_view (config_of (gates_of c.pass.inside.seats.items)) c.pass.inside.slip c.pass.inside.seats.items) (pass_view (config_of (gates_of (slice_set c.pass.inside.seats.items c.from-index.result c.act.new.seat))) c.pass.inside.slip (slice_set c.pass.inside.seats.items c.from-index.result c.act.new.seat)) c.from-index.result c.args.act c.in-Err.refused (refused c.pass.inside.slip c.pass.inside.seats.items c.pass.inside.actor c.pass.inside.seq c.pass.inside.last_stamp c.pass.invariant.0 c.from-index.result c.index_mut-seat.result.now c.act.new.seat p.low
    c.index_mut-seat.ensures.value p.kin has c.args.moment c.args.act c.in-Err.refused was))

pub returns-in-Err-clause-served : goal.returns-in-Err-clause-served
returns-in-Err-clause-served g c =
    let p = place c.self.inside.gates.items c.self.inside.register c.index-gate.result.now c.pass.inside.slip c.pass.inside.seats.items c.index_mut-seat.result.now c.pass.inside.actor c.pass.inside.seq c.pass.inside.last_stamp
    c.args.act c.args.unit c.from-index.result c.args.self.now c.args.pass.now c.self.view_is c.pass.view_is c.pass.invariant.0 c.requires.pass c.requires.configured c.requires.limits c.requires.asked
    c.from-index.ensures c.index-gate.ensures c.index_mut-seat.ensures.value in
    let at = subst (λ k. IsServedAt k c.act.new.seat.seen (asking c.pass.inside.actor c.pass.inside.seq c.pass.inside.last_stamp c.args.moment c.args.act) c.in-Err.refused) p.kin_is
    (if-some (λ k. IsServedAt k c.act.new.seat.seen (asking c.pass.inside.actor c.pass.inside.seq c.pass.inside.last_stamp c.args.moment c.args.act) c.in-Err.refused)
    c.index-gate.result.now.kin p.kin p.has c.in-Err.ensures.served) in
    let has = ap (λ (g : UnitGate). g.kin) p.gate_is ∙ p.has in
    subst (λ u. IsServed c.args.pass.now (pass_view (config_of (gates_of (slice_set c.pass.inside.seats.items c.from-index.result c.act.new.seat))) c.pass.inside.slip (slice_set c.pass.inside.seats.items c.from-index.result c.act.new.seat)) u c.args.act c.in-Err.refused) c.from-index.ensures
    (subst (λ (b : PassView). IsServed b (pass_view (config_of (gates_of (slice_set c.pass.inside.seats.items c.from-index.result c.act.new.seat))) c.pass.inside.slip (slice_set c.pass.inside.seats.items c.from-index.result c.act.new.seat)) c.from-index.result c.args.act c.in-Err.refused) c.pass.view_is
    (served c.pass.inside.slip c.pass.inside.seats.items c.pass.inside.actor c.pass.inside.seq c.pass.inside.last_stamp c.pass.invariant.0 c.from-index.result c.index_mut-seat.result.now c.act.new.seat p.low
    c.index_mut-seat.ensures.value p.kin has c.args.moment c.args.act c.in-Err.refused at))

pub returns-in-Ok-clause-saved : goal.returns-in-Ok-clause-saved
returns-in-Ok-clause-saved g c =
    let p = place c.self.inside.gates.items c.self.inside.register c.index-gate.result.now c.pass.inside.slip c.pass.inside.seats.items c.index_mut-seat.result.now c.pass.inside.actor c.pass.inside.seq c.pass.inside.last_stamp
    c.args.act c.args.unit c.from-index.result c.args.self.now c.args.pass.now c.self.view_is c.pass.view_is c.pass.invariant.0 c.requires.pass c.requires.configured c.requires.limits c.requires.asked
    c.from-index.ensures c.index-gate.ensures c.index_mut-seat.ensures.value in
    let was = if-some (λ k. IsSavedAt _ k c.index_mut-seat.result.now c.act.new.seat) c.index-gate.result.now.kin p.kin p.has c.in-Ok.ensures.saved in
    let has = ap (λ (g : UnitGate). g.kin) p.gate_is ∙ p.has in
    subst (λ u. IsSaved _ c.args.pass.now (pass_view (config_of (gates_of (slice_set c.pass.inside.seats.items c.from-index.result c.act.new.seat))) c.pass.inside.slip (slice_set c.pass.inside.seats.items c.from-index.result c.act.new.seat)) u) c.from-index.ensures
    (subst (λ (b : PassView). IsSaved _ b (pass_view (config_of (gates_of (slice_set c.pass.inside.seats.items c.from-index.result c.act.new.seat))) c.pass.inside.slip (slice_set c.pass.inside.seats.items c.from-index.result c.act.new.seat)) c.from-index.result) c.pass.view_is
    (saved c.pass.inside.slip c.pass.inside.seats.items c.pass.inside.actor c.pass.inside.seq c.pass.inside.last_stamp c.pass.invariant.0 c.from-index.result c.index_mut-seat.result.now c.act.new.seat p.low
    c.index_mut-seat.ensures.value p.kin has c.args.moment c.args.act _ was))
