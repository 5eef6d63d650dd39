use Rattle.std.proofs.Common.{◌≡◌, ap, sym, ◌∙◌, subst, slice_set}
use Rattle.unit_gate.specs.SeatActs.{IsHeldBy, HasTaken as HasTakenTurn, HasWaited as HasWaitedTurn}
use Rattle.nexus.specs.Worlds.{PassView, UnitGate}
use Rattle.nexus.specs.Holding.{HasWaited, IsHeldAt}
use Rattle.nexus.specs.inner.Gates.{config_of}
use Rattle.nexus.specs.inner.Keeping.{gates_of, pass_view}
use Rattle.nexus.proofs.Keeping.{seat-at, taken-keeps, has-waited, is-held}
use Rattle.nexus.proofs.Safe.{set-safe, waited-safe}
use Rattle.nexus.proofs.Turning.{if-some}
use Rattle.nexus.proofs.world.World.hold_waiting.Goals as goal

pub invariant_of-pass : goal.invariant_of-pass
invariant_of-pass g c =
    let seats = c.pass.inside.seats.items in
    let index = c.from-index.result in
    let seat = c.index_mut-seat.result.now in
    let p = seat-at c.self.inside.gates.items c.self.inside.register c.index-gate.result.now c.pass.inside.slip seats seat c.pass.inside.actor c.pass.inside.seq c.pass.inside.last_stamp
    c.args.unit index c.args.self.now c.args.pass.now c.self.view_is c.pass.view_is c.pass.invariant.0 c.requires.pass c.requires.configured c.from-index.ensures c.index-gate.ensures c.index_mut-seat.ensures.value in
    let after = c.hold_waiting-turn.new.seat in
    let waited = if-some (λ k. HasWaitedTurn k seat after) c.index-gate.result.now.kin p.kin p.has c.hold_waiting-turn.ensures.waited in
    let took = subst (λ k. HasTakenTurn k (record seat { misses = after.misses }) after) p.kin_is waited.taken in (
      taken-keeps c.pass.inside.slip seats c.pass.inside.actor c.pass.inside.seq c.pass.inside.last_stamp c.pass.invariant.0 index seat after p.low c.index_mut-seat.ensures.value p.kin after.misses took,
      set-safe _ seats index seat after p.low c.index_mut-seat.ensures.value (waited-safe _ p.kin seat after waited) c.pass.invariant.1,
    )

pub returns-clause-waited : goal.returns-clause-waited
returns-clause-waited g c =
    let seats = c.pass.inside.seats.items in
    let index = c.from-index.result in
    let seat = c.index_mut-seat.result.now in
    let p = seat-at c.self.inside.gates.items c.self.inside.register c.index-gate.result.now c.pass.inside.slip seats seat c.pass.inside.actor c.pass.inside.seq c.pass.inside.last_stamp
    c.args.unit index c.args.self.now c.args.pass.now c.self.view_is c.pass.view_is c.pass.invariant.0 c.requires.pass c.requires.configured c.from-index.ensures c.index-gate.ensures c.index_mut-seat.ensures.value in
    let after = c.hold_waiting-turn.new.seat in
    let waited = if-some (λ k. HasWaitedTurn k seat after) c.index-gate.result.now.kin p.kin p.has c.hold_waiting-turn.ensures.waited in
    let took = subst (λ k. HasTakenTurn k (record seat { misses = after.misses }) after) p.kin_is waited.taken in
    subst (λ u. HasWaited c.args.pass.now (pass_view (config_of (gates_of (slice_set seats index after))) c.pass.inside.slip (slice_set seats index after)) u) c.from-index.ensures
    (subst (λ (b : PassView). HasWaited b (pass_view (config_of (gates_of (slice_set seats index after))) c.pass.inside.slip (slice_set seats index after)) index) c.pass.view_is (has-waited c.pass.inside.slip seats c.pass.inside.actor c.pass.inside.seq c.pass.inside.last_stamp c.pass.invariant.0 index seat after p.low c.index_mut-seat.ensures.value p.kin after.misses took waited.misses))

pub returns-clause-held : goal.returns-clause-held
returns-clause-held g c =
    let seats = c.pass.inside.seats.items in
    let index = c.from-index.result in
    let seat = c.index_mut-seat.result.now in
    let p = seat-at c.self.inside.gates.items c.self.inside.register c.index-gate.result.now c.pass.inside.slip seats seat c.pass.inside.actor c.pass.inside.seq c.pass.inside.last_stamp
    c.args.unit index c.args.self.now c.args.pass.now c.self.view_is c.pass.view_is c.pass.invariant.0 c.requires.pass c.requires.configured c.from-index.ensures c.index-gate.ensures c.index_mut-seat.ensures.value in
    let after = c.hold_waiting-turn.new.seat in
    let waited = if-some (λ k. HasWaitedTurn k seat after) c.index-gate.result.now.kin p.kin p.has c.hold_waiting-turn.ensures.waited in
    let took = subst (λ k. HasTakenTurn k (record seat { misses = after.misses }) after) p.kin_is waited.taken in
    let turn = c.hold_waiting-turn.result in
    let by = subst (λ (gate : UnitGate). IsHeldBy gate.kin after turn) (sym p.gate_is) c.hold_waiting-turn.ensures.held in
    subst (λ u. IsHeldAt (pass_view (config_of (gates_of (slice_set seats index after))) c.pass.inside.slip (slice_set seats index after)) (record { unit = u; turn = turn })) c.from-index.ensures (is-held c.pass.inside.slip seats c.pass.inside.actor c.pass.inside.seq c.pass.inside.last_stamp c.pass.invariant.0 index seat after p.low c.index_mut-seat.ensures.value p.kin after.misses took turn by)
