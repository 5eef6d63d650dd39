use Rattle.std.proofs.Common.{◌<◌, ◌≡◌, length, ap, arith, add-one, true}
use Rattle.std.proofs.lemmas.List.{length-map}
use Rattle.turn_gate.specs.Seats.{SeatState}
use Rattle.nexus.proofs.Places.{gate-at, each-at}
use Rattle.nexus.proofs.Splitting.{split-more, split-long, at-old}
use Rattle.nexus.proofs.seats.split_all.Goals as goal

pub split-requires-clause-gate : goal.split-requires-clause-gate
split-requires-clause-gate g c =
    let here = at-old c.args.seats.now.items c.loop-index.seats.items c.loop-index.fresh.items c.loop-index.index c.index_mut.result.now c.loop-index.invariant.split c.index_mut.ensures.value in
    let low = c.loop-index-test.true in
    let long = length-map c.args.seats.now.items (λ (s : SeatState g.row.V-Entry.Denot g.row.V-Kin.Denot). s.gate) in
    let same = ap length c.requires.gates in
    gate-at c.args.seats.now.items c.args.gates.now c.index_mut.result.now c.index-gates-index.result c.loop-index.index c.requires.gates (omega (arith, low, long, same)) here c.index-gates-index.is

pub split-requires-clause-first : goal.split-requires-clause-first
split-requires-clause-first g c =
    let here = at-old c.args.seats.now.items c.loop-index.seats.items c.loop-index.fresh.items c.loop-index.index c.index_mut.result.now c.loop-index.invariant.split c.index_mut.ensures.value in
    let low = c.loop-index-test.true in
    let long = length-map c.args.seats.now.items (λ (s : SeatState g.row.V-Entry.Denot g.row.V-Kin.Denot). s.gate) in
    let same = ap length c.requires.gates in
    each-at (λ (s : SeatState g.row.V-Entry.Denot g.row.V-Kin.Denot). s.first ≡ true) c.args.seats.now.items c.loop-index.index c.index_mut.result.now (omega (arith, low, long, same)) here c.requires.firsts

pub push_reserved-requires : goal.push_reserved-requires
push_reserved-requires g c =
    let count = (split-long c.args.seats.now.items c.loop-index.seats.items c.loop-index.fresh.items c.loop-index.index c.loop-index.invariant.split).fresh_is in
    let room = c.requires.room in
    let more = c.loop-index.invariant.room in
    let low = c.loop-index-test.true in
    omega (arith, count, room, more, low)

pub loop-index-preserved : goal.loop-index-preserved
loop-index-preserved g c =
    let low = c.loop-index-test.true in
    let long = length-map c.args.seats.now.items (λ (s : SeatState g.row.V-Entry.Denot g.row.V-Kin.Denot). s.gate) in
    let same = ap length c.requires.gates in
    let next = split-more c.args.seats.now.items c.loop-index.seats.items c.loop-index.fresh.items c.loop-index.index c.index_mut.result.now c.split.new.seat c.in-Ok.seat c.loop-index.invariant.split
    (omega (arith, low, long, same)) c.index_mut.ensures.value record { seat = c.in-Ok.ensures.seat; new = c.in-Ok.ensures.new } in
    let k = c.push_reserved.ensures.capacity in
    let room = c.loop-index.invariant.room in
    record { split = rw (c.push_reserved.ensures.items, add-one) next; room = omega (arith, k, room) }
