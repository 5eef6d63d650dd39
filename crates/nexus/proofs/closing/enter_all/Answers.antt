use Rattle.std.proofs.Common.{◌<◌, ◌≤◌, ◌≡◌, suc, length, ap, sym, arith, subst, ◌∙◌, false, slice_set, add-one}
use Rattle.std.specs.Prelude.{IsSome}
use Rattle.std.proofs.lemmas.List.{length-map}
use Rattle.unit_gate.specs.Recorded.{kin_of}
use Rattle.unit_gate.specs.SeatActs.{UnitSeat, HasTaken, IsHeldBy}
use Rattle.nexus.specs.Worlds.{UnitGate}
use Rattle.nexus.specs.inner.Closing.{IsAlone, HasEntered, AreEntered}
use Rattle.nexus.proofs.Places.{gate-at, each-at}
use Rattle.nexus.proofs.Entering.{entered-rest, entered-long, entered-more}
use Rattle.nexus.proofs.Turning.{if-some}
use Rattle.nexus.proofs.closing.enter_all.Goals as goal

pub hold-requires-clause-gate : goal.hold-requires-clause-gate
hold-requires-clause-gate g c =
    let old = c.args.seats.now.items in
    let seat = c.index_mut.result.now in
    let here = c.index_mut.ensures.value ∙ entered-rest old c.loop-index.seats.items c.loop-index.turns.items c.loop-index.index seat c.loop-index.invariant.entered in
    let low = c.loop-index-test.true in
    let long = length-map old (λ (s : UnitSeat). s.gate) in
    let same = ap length c.requires.gates in
    gate-at old c.args.gates.now seat c.index-gates-index.result c.loop-index.index c.requires.gates (omega (arith, low, long, same)) here c.index-gates-index.is

pub hold-requires-clause-idle : goal.hold-requires-clause-idle
hold-requires-clause-idle g c =
    let old = c.args.seats.now.items in
    let seat = c.index_mut.result.now in
    let here = c.index_mut.ensures.value ∙ entered-rest old c.loop-index.seats.items c.loop-index.turns.items c.loop-index.index seat c.loop-index.invariant.entered in
    let low = c.loop-index-test.true in
    let long = length-map old (λ (s : UnitSeat). s.gate) in
    let same = ap length c.requires.gates in
    (each-at IsAlone old c.loop-index.index seat (omega (arith, low, long, same)) here c.requires.alone).free

pub unreachable-requires : goal.unreachable-requires
unreachable-requires g c =
    let old = c.args.seats.now.items in
    let seat = c.index_mut.result.now in
    let here = c.index_mut.ensures.value ∙ entered-rest old c.loop-index.seats.items c.loop-index.turns.items c.loop-index.index seat c.loop-index.invariant.entered in
    let low = c.loop-index-test.true in
    let long = length-map old (λ (s : UnitSeat). s.gate) in
    let same = ap length c.requires.gates in
    let alone = each-at IsAlone old c.loop-index.index seat (omega (arith, low, long, same)) here c.requires.alone in
    let no = subst (λ r. IsSome r) c.in_default.is (c.hold.ensures.alone alone.first alone.out) in
    cc

pub push_reserved-requires : goal.push_reserved-requires
push_reserved-requires g c =
    let old = c.args.seats.now.items in
    let count = (entered-long old c.loop-index.seats.items c.loop-index.turns.items c.loop-index.index c.loop-index.invariant.entered).1 in
    let low = c.loop-index-test.true in
    let room = c.loop-index.invariant.room in
    let enough = c.requires.room in
    let long = c.loop-index.turns.ok.0 in
    omega (arith, count, low, room, enough, long)

pub loop-index-preserved : goal.loop-index-preserved
loop-index-preserved g c =
    let old = c.args.seats.now.items in
    let seat = c.index_mut.result.now in
    let here = c.index_mut.ensures.value ∙ entered-rest old c.loop-index.seats.items c.loop-index.turns.items c.loop-index.index seat c.loop-index.invariant.entered in
    let low = c.loop-index-test.true in
    let long = length-map old (λ (s : UnitSeat). s.gate) in
    let same = ap length c.requires.gates in
    let few : c.loop-index.index < length old = omega (arith, low, long, same) in
    let gate_is = gate-at old c.args.gates.now seat c.index-gates-index.result c.loop-index.index c.requires.gates few here c.index-gates-index.is in
    let held = c.in-Some.ensures.held in
    let taken = if-some (λ k. HasTaken k seat c.hold.new.seat) c.index-gates-index.result.kin (kin_of c.in-Some.turn) held.kin_is c.in-Some.ensures.taken in
    let has : HasEntered seat c.hold.new.seat c.in-Some.turn = record { taken = taken; held = subst (λ (gate : UnitGate). IsHeldBy gate.kin c.hold.new.seat c.in-Some.turn) (sym gate_is) held } in
    let more = entered-more old c.loop-index.seats.items c.loop-index.turns.items c.loop-index.index seat c.hold.new.seat c.in-Some.turn c.loop-index.invariant.entered few c.index_mut.ensures.value has in
    record {
      entered = subst (λ n. AreEntered old (slice_set c.loop-index.seats.items c.loop-index.index c.hold.new.seat) c.push_reserved.new.self.items n) (sym (add-one c.loop-index.index))
          (subst (λ l. AreEntered old (slice_set c.loop-index.seats.items c.loop-index.index c.hold.new.seat) l (suc c.loop-index.index)) (sym c.push_reserved.ensures.items) more);
      room = let kept = c.push_reserved.ensures.capacity in let room = c.loop-index.invariant.room in omega (arith, kept, room);
    }
