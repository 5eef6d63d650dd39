use Rattle.std.proofs.Common.{◌≡◌, ◌≤◌, length, map, ap, sym, subst, arith, add-one, ◌∙◌, vec_capacity}
use Rattle.std.proofs.lemmas.List.{length-map}
use Rattle.std.specs.Vec.Iter.{into_iter_items}
use Rattle.merged_history.specs.Seats.{RootState}
use Rattle.nexus.specs.inner.Building.{BegunState, IsBegunWith}
use Rattle.nexus.specs.inner.Gates.{config_of}
use Rattle.nexus.specs.inner.Keeping.{KeepsRoot, gates_of, root_view}
use Rattle.nexus.proofs.Opening.{filled-none, filled-more, vacant-left, vacant-same, gates-low, seats-low, seqs-low, next-stands, world-keeps, root-above, root-keeps, root-room, is-begun-with}
use Rattle.nexus.proofs.beginning.VacantWorld.fill.Goals as goal

pub loop-init : goal.loop-init
loop-init g c =
    rw (c.into_iter-units.ensures.rest, c.into_iter-vacant.ensures.rest)
    (filled-none c.args.units.items c.self.inside.vacant.items c.self.inside.register c.self.inside.slip c.self.inside.gates.items c.self.inside.seats.items c.self.inside.seqs.items
    (vec_capacity c.self.inside.gates) (vec_capacity c.self.inside.seats) (vec_capacity c.self.inside.seqs) c.self.inside.rooms c.self.invariant (c.self.view_is ∙ c.requires.same))

pub fill_gate-gate-requires : goal.fill_gate-gate-requires
fill_gate-gate-requires g c = λ κs within. (
  within,
  (
    vacant-same c.args.units.items (into_iter_items c.loop.units) (into_iter_items c.next.new.self) (into_iter_items c.loop.vacant) c.loop.gates.items c.loop.seats.items c.loop.seqs.items c.loop.counter
        (vec_capacity c.loop.gates) (vec_capacity c.loop.seats) (vec_capacity c.loop.seqs) c.loop.invariant c.in-Some.begun c.in-Some.ensures.items (into_iter_items c.next-in-loop.new.self) c.in-Some-next.gate c.in-Some-next.ensures.items,
    next-stands c.args.config.now c.args.units.items (into_iter_items c.loop.units) (into_iter_items c.next.new.self) c.loop.gates.items c.loop.seats.items c.loop.seqs.items c.loop.counter c.in-Some.begun
        c.loop.invariant.built c.in-Some.ensures.items c.requires.units,
  ),
)

pub push_reserved-requires : goal.push_reserved-requires
push_reserved-requires g c =
    let low = gates-low c.args.units.items (into_iter_items c.loop.units) (into_iter_items c.next.new.self) (into_iter_items c.loop.vacant) c.loop.gates.items c.loop.seats.items c.loop.seqs.items c.loop.counter
    (vec_capacity c.loop.gates) (vec_capacity c.loop.seats) (vec_capacity c.loop.seqs) c.loop.invariant c.in-Some.begun c.in-Some.ensures.items in
    let long = c.loop.gates.ok.0 in
    omega (arith, low, long)

pub push_reserved-requires-in-loop : goal.push_reserved-requires-in-loop
push_reserved-requires-in-loop g c =
    let low = seats-low c.args.units.items (into_iter_items c.loop.units) (into_iter_items c.next.new.self) (into_iter_items c.loop.vacant) c.loop.gates.items c.loop.seats.items c.loop.seqs.items c.loop.counter
    (vec_capacity c.loop.gates) (vec_capacity c.loop.seats) (vec_capacity c.loop.seqs) c.loop.invariant c.in-Some.begun c.in-Some.ensures.items in
    let long = c.loop.seats.ok.0 in
    omega (arith, low, long)

pub push_reserved-requires-in-loop-2 : goal.push_reserved-requires-in-loop-2
push_reserved-requires-in-loop-2 g c =
    let low = seqs-low c.args.units.items (into_iter_items c.loop.units) (into_iter_items c.next.new.self) (into_iter_items c.loop.vacant) c.loop.gates.items c.loop.seats.items c.loop.seqs.items c.loop.counter
    (vec_capacity c.loop.gates) (vec_capacity c.loop.seats) (vec_capacity c.loop.seqs) c.loop.invariant c.in-Some.begun c.in-Some.ensures.items in
    let long = c.loop.seqs.ok.0 in
    omega (arith, low, long)

pub loop-preserved : goal.loop-preserved
loop-preserved g c =
    rw (c.push_reserved.ensures.items, c.push_reserved-in-loop.ensures.items, c.push_reserved-in-loop-2.ensures.items, add-one)
    (filled-more c.args.units.items (into_iter_items c.loop.units) (into_iter_items c.next.new.self) (into_iter_items c.loop.vacant) c.loop.gates.items c.loop.seats.items c.loop.seqs.items c.loop.counter
    (vec_capacity c.loop.gates) (vec_capacity c.loop.seats) (vec_capacity c.loop.seqs) c.loop.invariant c.in-Some.begun c.in-Some.ensures.items
    (into_iter_items c.next-in-loop.new.self) c.in-Some-next.gate c.in-Some-next.ensures.items c.fill_gate-gate.result.0 c.fill_gate-gate.result.1
    (vec_capacity c.push_reserved.new.self) (vec_capacity c.push_reserved-in-loop.new.self) (vec_capacity c.push_reserved-in-loop-2.new.self) c.fill_gate-gate.ensures.kin c.fill_gate-gate.ensures.seat
    c.push_reserved.ensures.capacity c.push_reserved-in-loop.ensures.capacity c.push_reserved-in-loop-2.ensures.capacity)

pub invariant_of-root : goal.invariant_of-root
invariant_of-root g c =
    let last : c.loop.counter ≡ length c.args.config.now.units = (let a = c.loop-test.false in let b = c.loop.auto.counter-end in let d = c.units-end.ensures.count in omega (arith, a, b, d)) in
    let count = ap length (c.self.view_is ∙ c.requires.same) ∙ length-map c.args.units.items (λ (b : BegunState). b.unit) in (
      subst (λ (s : RootState). KeepsRoot (config_of (gates_of c.loop.seats.items)) c.args.made c.loop.seqs.items s c.loop.seats.items) (sym c.self.invariant.slip_is)
          (root-keeps c.args.config.now c.args.units.items (into_iter_items c.loop.units) c.loop.gates.items c.loop.seats.items c.loop.seqs.items c.loop.counter c.loop.invariant.built
          c.requires.units c.requires.one_each c.units-end.ensures.limits.count.0 last c.self.inside.register c.args.made),
      root-above c.args.config.now c.args.units.items (into_iter_items c.loop.units) c.loop.gates.items c.loop.seats.items c.loop.seqs.items c.loop.counter c.loop.invariant.built
          c.requires.units c.requires.one_each c.units-end.ensures.limits.count.0 last c.self.inside.register c.args.made,
      root-room c.args.config.now c.args.units.items (into_iter_items c.loop.units) c.loop.gates.items c.loop.seats.items c.loop.seqs.items c.loop.counter c.loop.invariant.built
          c.requires.units c.requires.one_each c.units-end.ensures.limits.count.0 last c.self.inside.register c.args.made (length c.self.inside.vacant.items) c.self.inside.rooms count c.self.invariant.rooms_fit,
    )

pub invariant_of-result : goal.invariant_of-result
invariant_of-result g c =
    let last : c.loop.counter ≡ length c.args.config.now.units = (let a = c.loop-test.false in let b = c.loop.auto.counter-end in let d = c.units-end.ensures.count in omega (arith, a, b, d)) in
    world-keeps c.args.config.now c.args.units.items (into_iter_items c.loop.units) c.loop.gates.items c.loop.seats.items c.loop.seqs.items c.loop.counter c.loop.invariant.built
    c.requires.units c.requires.one_each c.units-end.ensures.limits.count.0 last c.self.inside.register c.args.made

pub returns : goal.returns
returns g c =
    let last : c.loop.counter ≡ length c.args.config.now.units = (let a = c.loop-test.false in let b = c.loop.auto.counter-end in let d = c.units-end.ensures.count in omega (arith, a, b, d)) in
    subst (λ (s : RootState). IsBegunWith c.args.config.now c.args.units.items c.args.made
    (record { config = config_of c.loop.gates.items; gates = c.loop.gates.items; register = c.self.inside.register }) (root_view (config_of (gates_of c.loop.seats.items)) c.args.made s c.loop.seats.items)) (sym c.self.invariant.slip_is)
    (is-begun-with c.args.config.now c.args.units.items (into_iter_items c.loop.units) c.loop.gates.items c.loop.seats.items c.loop.seqs.items c.loop.counter c.loop.invariant.built
    c.requires.units c.requires.one_each c.units-end.ensures.limits.count.0 last c.self.inside.register c.args.made)
