use Rattle.std.proofs.Common.{◌<◌, ◌≡◌, refl, length, ap, sym, ◌∙◌, subst, arith, slice_set}
use Rattle.std.proofs.lemmas.List.{length-map}
use Rattle.unit_gate.specs.Recorded.{RecordedState}
use Rattle.unit_gate.specs.SeatActs.{UnitSeat, IsHeldBy}
use Rattle.nexus.specs.inner.Closing.{LeftSoFar, given_back}
use Rattle.nexus.proofs.Leaving.{left-none, leaves-in-range, leaving}
use Rattle.nexus.proofs.closing.leave_all.Goals as goal

pub loop-held-init : goal.loop-held-init
loop-held-init g c = record { left = left-none c.args.seats.now.items c.args.turns.now.items c.requires.held; room = refl }

pub bounds-gates-index : goal.bounds-gates-index
bounds-gates-index g c =
    let old = c.args.seats.now.items in
    let low = leaves-in-range old c.loop-held.seats.items c.args.turns.now.items c.loop-held.turns.items c.pop.new.self.items c.in-Some.held c.requires.held c.loop-held.invariant.left c.in-Some.ensures.items in
    let few = low.1 in
    let same = ap length c.requires.gates in
    let long = length-map old (λ (s : UnitSeat). s.gate) in
    let at = c.len-index.ensures ∙ c.pop.new.self.ok.0 in
    omega (arith, few, same, long, at)

pub index_mut-requires : goal.index_mut-requires
index_mut-requires g c =
    let old = c.args.seats.now.items in
    let low = leaves-in-range old c.loop-held.seats.items c.args.turns.now.items c.loop-held.turns.items c.pop.new.self.items c.in-Some.held c.requires.held c.loop-held.invariant.left c.in-Some.ensures.items in
    let few = low.0 in
    let at = c.len-index.ensures ∙ c.pop.new.self.ok.0 in
    let long = c.loop-held.seats.ok.0 in
    omega (arith, few, at, long)

pub release-requires-clause-gate : goal.release-requires-clause-gate
release-requires-clause-gate g c =
    let old = c.args.seats.now.items in
    let left = leaving c.args.gates.now c.index-gates-index.result old c.loop-held.seats.items c.args.turns.now.items c.loop-held.turns.items c.pop.new.self.items c.index_mut.result.now c.in-Some.held c.len-index.result
    c.requires.gates c.requires.held c.loop-held.invariant.left c.in-Some.ensures.items (c.len-index.ensures ∙ c.pop.new.self.ok.0) c.index_mut.ensures.value c.index-gates-index.is in
    left.gate_is

pub release-requires-clause-held : goal.release-requires-clause-held
release-requires-clause-held g c =
    let old = c.args.seats.now.items in
    let left = leaving c.args.gates.now c.index-gates-index.result old c.loop-held.seats.items c.args.turns.now.items c.loop-held.turns.items c.pop.new.self.items c.index_mut.result.now c.in-Some.held c.len-index.result
    c.requires.gates c.requires.held c.loop-held.invariant.left c.in-Some.ensures.items (c.len-index.ensures ∙ c.pop.new.self.ok.0) c.index_mut.ensures.value c.index-gates-index.is in
    subst (λ (u : RecordedState). IsHeldBy c.index-gates-index.result.kin c.index_mut.result.now u) (sym c.held.view_is) left.held

pub loop-held-preserved : goal.loop-held-preserved
loop-held-preserved g c =
    let old = c.args.seats.now.items in
    let left = leaving c.args.gates.now c.index-gates-index.result old c.loop-held.seats.items c.args.turns.now.items c.loop-held.turns.items c.pop.new.self.items c.index_mut.result.now c.in-Some.held c.len-index.result
    c.requires.gates c.requires.held c.loop-held.invariant.left c.in-Some.ensures.items (c.len-index.ensures ∙ c.pop.new.self.ok.0) c.index_mut.ensures.value c.index-gates-index.is in
    record {
      left = subst (λ n. LeftSoFar old (slice_set c.loop-held.seats.items n c.release.new.seat) c.args.turns.now.items c.pop.new.self.items) (sym (c.len-index.ensures ∙ c.pop.new.self.ok.0))
          (subst (λ (s : UnitSeat). LeftSoFar old (slice_set c.loop-held.seats.items (length c.pop.new.self.items) s) c.args.turns.now.items c.pop.new.self.items) (sym c.release.ensures) left.more);
      room = c.pop.ensures.capacity ∙ c.loop-held.invariant.room;
    }

pub offset_bounds-gates-index : goal.offset_bounds-gates-index
offset_bounds-gates-index g c =
    let old = c.args.seats.now.items in
    let low = leaves-in-range old c.loop-held.seats.items c.args.turns.now.items c.loop-held.turns.items c.pop.new.self.items c.in-Some.held c.requires.held c.loop-held.invariant.left c.in-Some.ensures.items in
    let few = low.1 in
    let same = ap length c.requires.gates in
    let long = length-map old (λ (s : UnitSeat). s.gate) in
    let at = c.len-index.ensures ∙ c.pop.new.self.ok.0 in
    let inside : c.len-index.result < length c.args.gates.now = omega (arith, few, same, long, at) in
    omega (arith, inside)
