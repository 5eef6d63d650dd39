use Rattle.std.proofs.Common.{◌≡◌, length, ap, sym, arith, subst, slice_set, length-append, ◌∷◌, []}
use Rattle.std.proofs.lemmas.List.{length-map}
use Rattle.turn_gate.specs.Seats.{SeatState}
use Rattle.nexus.specs.inner.Seats.{JoinedSoFar}
use Rattle.nexus.proofs.Taking.{so-far-none, in-range, are-at}
use Rattle.nexus.proofs.seats.join_all.Goals as goal

pub loop-seat-init : goal.loop-seat-init
loop-seat-init g c =
    let a = ap length c.requires.gates in
    let b = ap length c.requires.same in
    let x = length-map c.args.seats.now.items (λ (s : SeatState g.row.V-Entry.Denot g.row.V-Kin.Denot). s.gate) in
    let y = length-map c.args.passed.items (λ (s : SeatState g.row.V-Entry.Denot g.row.V-Kin.Denot). s.gate) in
    so-far-none c.args.seats.now.items c.args.passed.items (omega (arith, a, b, x, y))

pub index_mut-requires : goal.index_mut-requires
index_mut-requires g c =
    let low = in-range c.args.gates.now c.args.seats.now.items c.args.passed.items c.loop-seat.seats.items c.loop-seat.passed.items c.pop.new.self.items c.in-Some.seat c.requires.gates c.requires.same
    c.loop-seat.invariant c.in-Some.ensures.items in
    let range = low.0 in
    let index = c.len-index.ensures in
    omega (arith, index, range)

pub join-requires-clause-gate : goal.join-requires-clause-gate
join-requires-clause-gate g c =
    let index : c.len-index.result ≡ length c.pop.new.self.items = (let e = c.len-index.ensures in omega (arith, e)) in
    let at = are-at c.args.gates.now c.index-gates-index.result c.args.seats.now.items c.args.passed.items c.loop-seat.seats.items c.loop-seat.passed.items c.pop.new.self.items
    c.index_mut.result.now c.in-Some.seat c.len-index.result c.requires.gates c.requires.same c.requires.firsts c.requires.free c.loop-seat.invariant c.in-Some.ensures.items index c.index_mut.ensures.value c.index-gates-index.is in
    at.into_gate

pub join-requires-clause-first : goal.join-requires-clause-first
join-requires-clause-first g c =
    let index : c.len-index.result ≡ length c.pop.new.self.items = (let e = c.len-index.ensures in omega (arith, e)) in
    let at = are-at c.args.gates.now c.index-gates-index.result c.args.seats.now.items c.args.passed.items c.loop-seat.seats.items c.loop-seat.passed.items c.pop.new.self.items
    c.index_mut.result.now c.in-Some.seat c.len-index.result c.requires.gates c.requires.same c.requires.firsts c.requires.free c.loop-seat.invariant c.in-Some.ensures.items index c.index_mut.ensures.value c.index-gates-index.is in
    at.first

pub join-requires-clause-idle : goal.join-requires-clause-idle
join-requires-clause-idle g c =
    let index : c.len-index.result ≡ length c.pop.new.self.items = (let e = c.len-index.ensures in omega (arith, e)) in
    let at = are-at c.args.gates.now c.index-gates-index.result c.args.seats.now.items c.args.passed.items c.loop-seat.seats.items c.loop-seat.passed.items c.pop.new.self.items
    c.index_mut.result.now c.in-Some.seat c.len-index.result c.requires.gates c.requires.same c.requires.firsts c.requires.free c.loop-seat.invariant c.in-Some.ensures.items index c.index_mut.ensures.value c.index-gates-index.is in
    at.free

pub loop-seat-preserved : goal.loop-seat-preserved
loop-seat-preserved g c =
    let index : c.len-index.result ≡ length c.pop.new.self.items = (let e = c.len-index.ensures in omega (arith, e)) in
    let at = are-at c.args.gates.now c.index-gates-index.result c.args.seats.now.items c.args.passed.items c.loop-seat.seats.items c.loop-seat.passed.items c.pop.new.self.items
    c.index_mut.result.now c.in-Some.seat c.len-index.result c.requires.gates c.requires.same c.requires.firsts c.requires.free c.loop-seat.invariant c.in-Some.ensures.items index c.index_mut.ensures.value c.index-gates-index.is in
    let e = c.join.ensures in
    subst (λ k. JoinedSoFar c.args.seats.now.items c.args.passed.items (slice_set c.loop-seat.seats.items k c.join.new.into) c.pop.new.self.items) (sym index)
    (at.next.more c.join.new.into record { longer = e.longer; longer_seat = e.part; fewer = e.out; above = e.above; above_seat = e.part_above; into = e.seat })
