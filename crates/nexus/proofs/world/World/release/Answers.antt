use Rattle.std.proofs.Common.{◌<◌, ◌≡◌, length, ap, sym, ◌∙◌, subst, arith, slice_set, false, Some}
use Rattle.std.specs.Prelude.{slice_get}
use Rattle.std.proofs.lemmas.List.{length-map}
use Rattle.unit_gate.specs.SeatActs.{IsHeldBy, UnitSeat}
use Rattle.nexus.specs.Worlds.{PassView, UnitGate, WorldView}
use Rattle.nexus.specs.Holding.{HoldView, IsHeldAt}
use Rattle.nexus.specs.inner.Gates.{config_of}
use Rattle.nexus.specs.inner.Keeping.{gates_of, pass_view}
use Rattle.nexus.proofs.Keeping.{gate-low, gave-keeps, gave-back, seat-holds}
use Rattle.nexus.proofs.Safe.{gave-safe, set-safe}
use Rattle.nexus.proofs.Places.{gate-at}
use Rattle.nexus.proofs.world.World.release.Goals as goal

pub invariant_of-pass : goal.invariant_of-pass
invariant_of-pass g c =
    let seats = c.pass.inside.seats.items in
    let index = c.from-index.result in
    let same = c.from-index.ensures ∙ ap (λ (h : HoldView). h.unit) c.hold.view_is in
    let at = ap (λ (v : PassView). slice_get v.gates index) c.pass.view_is ∙ ap (λ n. slice_get c.args.pass.now.gates n) same ∙ c.requires.held.at in
    let few = gate-low (gates_of seats) index c.requires.held.gate at in
    let long = length-map seats (λ (s : UnitSeat). s.gate) in
    let low : index < length seats = omega (arith, few, long) in (
      gave-keeps c.pass.inside.slip seats c.pass.inside.actor c.pass.inside.seq c.pass.inside.last_stamp c.pass.invariant.0 index c.index_mut-seat.result.now c.release.new.seat low c.index_mut-seat.ensures.value c.release.ensures,
      set-safe _ seats index c.index_mut-seat.result.now c.release.new.seat low c.index_mut-seat.ensures.value (gave-safe _ c.index_mut-seat.result.now c.release.new.seat c.release.ensures) c.pass.invariant.1,
    )

pub returns : goal.returns
returns g c =
    let seats = c.pass.inside.seats.items in
    let index = c.from-index.result in
    let same = c.from-index.ensures ∙ ap (λ (h : HoldView). h.unit) c.hold.view_is in
    let at = ap (λ (v : PassView). slice_get v.gates index) c.pass.view_is ∙ ap (λ n. slice_get c.args.pass.now.gates n) same ∙ c.requires.held.at in
    let few = gate-low (gates_of seats) index c.requires.held.gate at in
    let long = length-map seats (λ (s : UnitSeat). s.gate) in
    let low : index < length seats = omega (arith, few, long) in
    gave-back c.pass.inside.slip seats c.pass.inside.actor c.pass.inside.seq c.pass.inside.last_stamp c.pass.invariant.0 index c.index_mut-seat.result.now c.release.new.seat low c.index_mut-seat.ensures.value c.release.ensures
    ∙ ap (λ (v : PassView). record v { holds = slice_set v.holds index false }) c.pass.view_is
    ∙ ap (λ n. record c.args.pass.now { holds = slice_set c.args.pass.now.holds n false }) same

pub release-requires-clause-held : goal.release-requires-clause-held
release-requires-clause-held g c =
    let seats = c.pass.inside.seats.items in
    let index = c.from-index.result in
    let turn = c.hold.inside.turn in
    let same = c.from-index.ensures ∙ ap (λ (h : HoldView). h.unit) c.hold.view_is in
    let at = ap (λ (v : PassView). slice_get v.gates index) c.pass.view_is ∙ ap (λ n. slice_get c.args.pass.now.gates n) same ∙ c.requires.held.at in
    let few = gate-low (gates_of seats) index c.requires.held.gate at in
    let long = length-map seats (λ (s : UnitSeat). s.gate) in
    let low : index < length seats = omega (arith, few, long) in
    let gates_are : gates_of seats ≡ c.self.inside.gates.items =
    ap (λ (v : PassView). v.gates) c.pass.view_is ∙ c.requires.pass.gates ∙ sym (ap (λ (v : WorldView). v.gates) c.self.view_is) in
    let gate_is = gate-at seats c.self.inside.gates.items c.index_mut-seat.result.now c.index-gate.result.now index gates_are low c.index_mut-seat.ensures.value c.index-gate.ensures in
    let held : IsHeldAt (pass_view (config_of (gates_of seats)) c.pass.inside.slip seats) (record { unit = index; turn = turn }) =
    subst (λ n. IsHeldAt (pass_view (config_of (gates_of seats)) c.pass.inside.slip seats) (record { unit = n; turn = turn })) (sym c.from-index.ensures)
    (subst (λ (h : HoldView). IsHeldAt (pass_view (config_of (gates_of seats)) c.pass.inside.slip seats) h) (sym c.hold.view_is)
    (subst (λ (v : PassView). IsHeldAt v c.args.hold) (sym c.pass.view_is) c.requires.held)) in
    subst (λ (gate : UnitGate). IsHeldBy gate.kin c.index_mut-seat.result.now turn) gate_is
    (seat-holds c.pass.inside.slip seats c.pass.inside.actor c.pass.inside.seq c.pass.inside.last_stamp c.pass.invariant.0 index c.index_mut-seat.result.now c.index_mut-seat.result.now low c.index_mut-seat.ensures.value turn held)
