use Rattle.std.proofs.Common.{◌≡◌, refl, ap, sym, ◌∙◌, subst, slice_set}
use Rattle.unit_gate.specs.SeatActs.{IsHeldBy, HasTaken as HasTakenTurn}
use Rattle.nexus.specs.Worlds.{PassView, UnitGate, FoundTaken}
use Rattle.nexus.specs.Holding.{HasTaken, IsHeldAt}
use Rattle.nexus.specs.inner.Gates.{config_of}
use Rattle.nexus.specs.inner.Keeping.{gates_of, pass_view}
use Rattle.nexus.proofs.NotDone.{missed-keeps, missed-found}
use Rattle.nexus.proofs.Keeping.{seat-at, taken-keeps, was-taken, is-held}
use Rattle.nexus.proofs.Safe.{missed-safe, set-safe, taken-safe}
use Rattle.nexus.proofs.Turning.{if-some}
use Rattle.nexus.proofs.world.World.hold.Goals as goal

pub invariant_of-pass : goal.invariant_of-pass
invariant_of-pass g c =
    let p = seat-at c.self.inside.gates.items c.self.inside.register c.index-gate.result.now c.pass.inside.slip c.pass.inside.seats.items c.index_mut-seat.result.now c.pass.inside.actor c.pass.inside.seq c.pass.inside.last_stamp
    c.args.unit c.from-index.result c.args.self.now c.args.pass.now c.self.view_is c.pass.view_is c.pass.invariant.0 c.requires.pass c.requires.configured c.from-index.ensures c.index-gate.ensures c.index_mut-seat.ensures.value in (
      missed-keeps c.pass.inside.slip c.pass.inside.seats.items c.pass.inside.actor c.pass.inside.seq c.pass.inside.last_stamp c.pass.invariant.0 c.from-index.result c.index_mut-seat.result.now c.hold.new.seat p.low c.index_mut-seat.ensures.value c.in_default.ensures.missed,
      set-safe _ c.pass.inside.seats.items c.from-index.result c.index_mut-seat.result.now c.hold.new.seat p.low c.index_mut-seat.ensures.value (missed-safe _ c.index_mut-seat.result.now c.hold.new.seat c.in_default.ensures.missed) c.pass.invariant.1,
    )

pub returns-in_default-clause-missed : goal.returns-in_default-clause-missed
returns-in_default-clause-missed g c =
    let p = seat-at c.self.inside.gates.items c.self.inside.register c.index-gate.result.now c.pass.inside.slip c.pass.inside.seats.items c.index_mut-seat.result.now c.pass.inside.actor c.pass.inside.seq c.pass.inside.last_stamp
    c.args.unit c.from-index.result c.args.self.now c.args.pass.now c.self.view_is c.pass.view_is c.pass.invariant.0 c.requires.pass c.requires.configured c.from-index.ensures c.index-gate.ensures c.index_mut-seat.ensures.value in
    subst (λ u. FoundTaken c.args.pass.now (pass_view (config_of (gates_of (slice_set c.pass.inside.seats.items c.from-index.result c.hold.new.seat))) c.pass.inside.slip (slice_set c.pass.inside.seats.items c.from-index.result c.hold.new.seat)) u) c.from-index.ensures
    (subst (λ (b : PassView). FoundTaken b (pass_view (config_of (gates_of (slice_set c.pass.inside.seats.items c.from-index.result c.hold.new.seat))) c.pass.inside.slip (slice_set c.pass.inside.seats.items c.from-index.result c.hold.new.seat)) c.from-index.result) c.pass.view_is (missed-found c.pass.inside.slip c.pass.inside.seats.items c.pass.inside.actor c.pass.inside.seq c.pass.inside.last_stamp c.pass.invariant.0 c.from-index.result c.index_mut-seat.result.now c.hold.new.seat p.low c.index_mut-seat.ensures.value c.in_default.ensures.missed))

pub invariant_of-pass-2 : goal.invariant_of-pass-2
invariant_of-pass-2 g c =
    let p = seat-at c.self.inside.gates.items c.self.inside.register c.index-gate.result.now c.pass.inside.slip c.pass.inside.seats.items c.index_mut-seat.result.now c.pass.inside.actor c.pass.inside.seq c.pass.inside.last_stamp
    c.args.unit c.from-index.result c.args.self.now c.args.pass.now c.self.view_is c.pass.view_is c.pass.invariant.0 c.requires.pass c.requires.configured c.from-index.ensures c.index-gate.ensures c.index_mut-seat.ensures.value in
    let took = subst (λ k. HasTakenTurn k c.index_mut-seat.result.now c.hold.new.seat) p.kin_is (if-some (λ k. HasTakenTurn k c.index_mut-seat.result.now c.hold.new.seat) c.index-gate.result.now.kin p.kin p.has c.in-Some.ensures.taken) in
    let plain = if-some (λ k. HasTakenTurn k c.index_mut-seat.result.now c.hold.new.seat) c.index-gate.result.now.kin p.kin p.has c.in-Some.ensures.taken in (
      taken-keeps c.pass.inside.slip c.pass.inside.seats.items c.pass.inside.actor c.pass.inside.seq c.pass.inside.last_stamp c.pass.invariant.0 c.from-index.result c.index_mut-seat.result.now c.hold.new.seat p.low c.index_mut-seat.ensures.value p.kin c.index_mut-seat.result.now.misses took,
      set-safe _ c.pass.inside.seats.items c.from-index.result c.index_mut-seat.result.now c.hold.new.seat p.low c.index_mut-seat.ensures.value (taken-safe _ p.kin c.index_mut-seat.result.now c.hold.new.seat plain) c.pass.invariant.1,
    )

pub returns-clause-taken : goal.returns-clause-taken
returns-clause-taken g c =
    let p = seat-at c.self.inside.gates.items c.self.inside.register c.index-gate.result.now c.pass.inside.slip c.pass.inside.seats.items c.index_mut-seat.result.now c.pass.inside.actor c.pass.inside.seq c.pass.inside.last_stamp
    c.args.unit c.from-index.result c.args.self.now c.args.pass.now c.self.view_is c.pass.view_is c.pass.invariant.0 c.requires.pass c.requires.configured c.from-index.ensures c.index-gate.ensures c.index_mut-seat.ensures.value in
    let took = subst (λ k. HasTakenTurn k c.index_mut-seat.result.now c.hold.new.seat) p.kin_is (if-some (λ k. HasTakenTurn k c.index_mut-seat.result.now c.hold.new.seat) c.index-gate.result.now.kin p.kin p.has c.in-Some.ensures.taken) in
    subst (λ u. HasTaken c.args.pass.now (pass_view (config_of (gates_of (slice_set c.pass.inside.seats.items c.from-index.result c.hold.new.seat))) c.pass.inside.slip (slice_set c.pass.inside.seats.items c.from-index.result c.hold.new.seat)) u) c.from-index.ensures
    (subst (λ (b : PassView). HasTaken b (pass_view (config_of (gates_of (slice_set c.pass.inside.seats.items c.from-index.result c.hold.new.seat))) c.pass.inside.slip (slice_set c.pass.inside.seats.items c.from-index.result c.hold.new.seat)) c.from-index.result) c.pass.view_is (was-taken c.pass.inside.slip c.pass.inside.seats.items c.pass.inside.actor c.pass.inside.seq c.pass.inside.last_stamp c.pass.invariant.0 c.from-index.result c.index_mut-seat.result.now c.hold.new.seat p.low c.index_mut-seat.ensures.value p.kin c.index_mut-seat.result.now.misses took refl))

pub returns-clause-held : goal.returns-clause-held
returns-clause-held g c =
    let p = seat-at c.self.inside.gates.items c.self.inside.register c.index-gate.result.now c.pass.inside.slip c.pass.inside.seats.items c.index_mut-seat.result.now c.pass.inside.actor c.pass.inside.seq c.pass.inside.last_stamp
    c.args.unit c.from-index.result c.args.self.now c.args.pass.now c.self.view_is c.pass.view_is c.pass.invariant.0 c.requires.pass c.requires.configured c.from-index.ensures c.index-gate.ensures c.index_mut-seat.ensures.value in
    let took = subst (λ k. HasTakenTurn k c.index_mut-seat.result.now c.hold.new.seat) p.kin_is (if-some (λ k. HasTakenTurn k c.index_mut-seat.result.now c.hold.new.seat) c.index-gate.result.now.kin p.kin p.has c.in-Some.ensures.taken) in
    let by = subst (λ (gate : UnitGate). IsHeldBy gate.kin c.hold.new.seat c.in-Some.turn) (sym p.gate_is) c.in-Some.ensures.held in
    subst (λ u. IsHeldAt (pass_view (config_of (gates_of (slice_set c.pass.inside.seats.items c.from-index.result c.hold.new.seat))) c.pass.inside.slip (slice_set c.pass.inside.seats.items c.from-index.result c.hold.new.seat)) (record { unit = u; turn = c.in-Some.turn })) c.from-index.ensures (is-held c.pass.inside.slip c.pass.inside.seats.items c.pass.inside.actor c.pass.inside.seq c.pass.inside.last_stamp c.pass.invariant.0 c.from-index.result c.index_mut-seat.result.now c.hold.new.seat p.low c.index_mut-seat.ensures.value p.kin c.index_mut-seat.result.now.misses took c.in-Some.turn by)
