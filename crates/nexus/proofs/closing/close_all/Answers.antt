use Rattle.std.proofs.Common.{◌≤◌, ◌≡◌, ap, sym, ◌∙◌, subst, arith, length, vec_capacity}
use Rattle.std.proofs.lemmas.List.{length-map}
use Rattle.std.specs.Vec.Iter.{into_iter_items}
use Rattle.unit_gate.specs.Recorded.{facts}
use Rattle.unit_gate.specs.SeatActs.{UnitSeat}
use Rattle.nexus.specs.inner.Closing.{AreClosed, ClosedSoFar}
use Rattle.nexus.proofs.Leaving.{closing-none, closing-next, closing-all, nothing-left}
use Rattle.nexus.proofs.closing.close_all.Goals as goal

pub loop-held-init : goal.loop-held-init
loop-held-init g c =
    let start = closing-none (facts g.R.Recorder.recorded g.R.Recorder.record_faults g.R.Recorder.absent g.R.Recorder.front) g.R.Recorder.fits c.args.seats.items c.args.turns.items c.args.gates.items (vec_capacity c.args.units.now) (vec_capacity c.args.units.now)
    c.requires.gates c.requires.held c.requires.ready (omega arith) in (
      rw (c.into_iter-seats.ensures.rest, c.into_iter-turns.ensures.rest, c.into_iter-gates.ensures.rest, c.requires.none) start,
      c.into_iter-turns.ensures.len ∙ c.args.turns.ok.0 ∙ ap length (sym c.into_iter-turns.ensures.rest),
      c.into_iter-seats.ensures.len ∙ c.args.seats.ok.0 ∙ ap length (sym c.into_iter-seats.ensures.rest),
      c.into_iter-gates.ensures.len ∙ c.args.gates.ok.0 ∙ ap length (sym c.into_iter-gates.ensures.rest),
    )

pub returns : goal.returns
returns g c =
    let facts_of = facts g.R.Recorder.recorded g.R.Recorder.record_faults g.R.Recorder.absent g.R.Recorder.front in
    let none = nothing-left (into_iter_items c.loop-held.turns) (sym c.loop-held.invariant.1 ∙ c.in_default.ensures.cases.0) in
    let all = closing-all facts_of g.R.Recorder.fits (into_iter_items c.into_iter-seats.result) (into_iter_items c.loop-held.seats) (into_iter_items c.into_iter-turns.result) (into_iter_items c.loop-held.turns) (into_iter_items c.loop-held.gates)
    c.loop-held.units.items (vec_capacity c.args.units.now) (vec_capacity c.loop-held.units) c.loop-held.invariant.0 none in
    subst (λ l. AreClosed facts_of g.R.Recorder.fits l c.args.turns.items c.loop-held.units.items) c.into_iter-seats.ensures.rest
    (subst (λ l. AreClosed facts_of g.R.Recorder.fits (into_iter_items c.into_iter-seats.result) l c.loop-held.units.items) c.into_iter-turns.ensures.rest all)

pub push_reserved-requires : goal.push_reserved-requires
push_reserved-requires g c =
    let facts_of = facts g.R.Recorder.recorded g.R.Recorder.record_faults g.R.Recorder.absent g.R.Recorder.front in
    let next = closing-next facts_of g.R.Recorder.fits (into_iter_items c.into_iter-seats.result) (into_iter_items c.loop-held.seats) (into_iter_items c.next-in-Some-2.new.self) (into_iter_items c.into_iter-turns.result) (into_iter_items c.loop-held.turns) (into_iter_items c.next.new.self)
    (into_iter_items c.loop-held.gates) (into_iter_items c.next-in-Some.new.self) c.loop-held.units.items c.in-Some-next-2.seat c.in-Some.held c.in-Some-next.gate (vec_capacity c.args.units.now) (vec_capacity c.loop-held.units)
    c.loop-held.invariant.0 c.in-Some.ensures.items c.in-Some-next-2.ensures.items c.in-Some-next.ensures.items in
    let low = next.low in
    let room = c.loop-held.invariant.0.room in
    let enough = c.requires.room in
    let long = c.loop-held.units.ok.0 in
    let seats = ap length c.into_iter-seats.ensures.rest in
    let count = length-map c.args.seats.items (λ (s : UnitSeat). s.gate) in
    let same = ap length c.requires.gates in
    omega (arith, low, room, enough, long, seats, count, same)

pub loop-held-preserved : goal.loop-held-preserved
loop-held-preserved g c =
    let facts_of = facts g.R.Recorder.recorded g.R.Recorder.record_faults g.R.Recorder.absent g.R.Recorder.front in
    let next = closing-next facts_of g.R.Recorder.fits (into_iter_items c.into_iter-seats.result) (into_iter_items c.loop-held.seats) (into_iter_items c.next-in-Some-2.new.self) (into_iter_items c.into_iter-turns.result) (into_iter_items c.loop-held.turns) (into_iter_items c.next.new.self)
    (into_iter_items c.loop-held.gates) (into_iter_items c.next-in-Some.new.self) c.loop-held.units.items c.in-Some-next-2.seat c.in-Some.held c.in-Some-next.gate (vec_capacity c.args.units.now) (vec_capacity c.loop-held.units)
    c.loop-held.invariant.0 c.in-Some.ensures.items c.in-Some-next-2.ensures.items c.in-Some-next.ensures.items in
    let room = c.loop-held.invariant.0.room in
    let kept = c.push_reserved.ensures.capacity in
    let more = next.more c.close_one.result (vec_capacity c.push_reserved.new.self) c.close_one.ensures (omega (arith, room, kept)) in
    let turns = c.loop-held.invariant.1 in
    let turns_less = c.in-Some.ensures.len in
    let turns_list = ap length c.in-Some.ensures.items in
    let seats = c.loop-held.invariant.2 in
    let seats_less = c.in-Some-next-2.ensures.len in
    let seats_list = ap length c.in-Some-next-2.ensures.items in
    let gates = c.loop-held.invariant.3 in
    let gates_less = c.in-Some-next.ensures.len in
    let gates_list = ap length c.in-Some-next.ensures.items in (
      subst (λ l. ClosedSoFar facts_of g.R.Recorder.fits (into_iter_items c.into_iter-seats.result) (into_iter_items c.next-in-Some-2.new.self) (into_iter_items c.into_iter-turns.result) (into_iter_items c.next.new.self)
          (into_iter_items c.next-in-Some.new.self) l (vec_capacity c.args.units.now) (vec_capacity c.push_reserved.new.self)) (sym c.push_reserved.ensures.items) more,
      omega (arith, turns, turns_less, turns_list),
      omega (arith, seats, seats_less, seats_list),
      omega (arith, gates, gates_less, gates_list),
    )
