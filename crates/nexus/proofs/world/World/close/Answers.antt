use Rattle.std.proofs.Common.{◌≡◌, length, map, ap, sym, ◌∙◌, subst, arith, vec_capacity}
use Rattle.cm_history.proofs.PublicLaws.{Each}
use Rattle.merged_history.specs.Merged.{merged}
use Rattle.merged_history.specs.Passes.{AreFrom}
use Rattle.unit_gate.specs.Recorded.{RecordedState, facts}
use Rattle.unit_gate.specs.SeatActs.{UnitSeat}
use Rattle.nexus.specs.Worlds.{WorldView}
use Rattle.nexus.specs.inner.Gates.{config_of}
use Rattle.nexus.specs.Roots.{RootView}
use Rattle.nexus.specs.Closing.{WasClosed, WasHandedBack}
use Rattle.nexus.specs.inner.Keeping.{AreAbove, KeepsRoot, gates_of, root_view}
use Rattle.nexus.proofs.Leaving.{nothing-left}
use Rattle.nexus.proofs.Closings.{are-alone, kept-from, gates-held, held, ready, above-back, keeps-back, room-back, handed-back, was-closed}
use Rattle.nexus.proofs.world.World.close.Goals as goal

pub enter_all-requires-clause-alone : goal.enter_all-requires-clause-alone
enter_all-requires-clause-alone g c =
    let none : length c.root.inside.slip.out ≡ 0 = ap (λ (v : RootView). length v.out) c.root.view_is ∙ c.requires.none in
    are-alone c.root.inside.seats.items c.root.invariant.0.free (subst (λ n. Each (λ (s : UnitSeat). s.out ≡ n) c.root.inside.seats.items) none c.root.invariant.0.outs) c.root.invariant.0.firsts

pub merge-requires : goal.merge-requires
merge-requires g c = rw c.as_slice.ensures.value (kept-from c.root.inside.made c.root.inside.seqs.items c.root.inside.slip c.root.inside.seats.items c.enter_all.new.seats.items c.enter_all.new.turns.items c.root.invariant.0 c.enter_all.ensures.entered)

pub close_all-requires-clause-gates : goal.close_all-requires-clause-gates
close_all-requires-clause-gates g c = gates-held c.root.inside.made c.root.inside.seqs.items c.root.inside.slip c.root.inside.seats.items c.enter_all.new.seats.items c.enter_all.new.turns.items c.root.invariant.0 c.enter_all.ensures.entered ∙ ap (λ (v : RootView). v.gates) c.root.view_is ∙ c.requires.root.gates ∙ sym (ap (λ (v : WorldView). v.gates) c.self.view_is)

pub close_all-requires-clause-ready : goal.close_all-requires-clause-ready
close_all-requires-clause-ready g c = ready c.root.inside.made c.root.inside.seqs.items c.root.inside.slip c.root.inside.seats.items c.enter_all.new.seats.items c.enter_all.new.turns.items c.root.invariant.0 c.enter_all.ensures.entered (ap (λ (v : RootView). v.out) c.root.view_is ∙ nothing-left c.args.root.out c.requires.none)

pub close_all-requires-clause-held : goal.close_all-requires-clause-held
close_all-requires-clause-held g c = held c.root.inside.made c.root.inside.seqs.items c.root.inside.slip c.root.inside.seats.items c.enter_all.new.seats.items c.enter_all.new.turns.items c.root.invariant.0 c.enter_all.ensures.entered

pub leave_all-requires-clause-gates : goal.leave_all-requires-clause-gates
leave_all-requires-clause-gates g c = gates-held c.root.inside.made c.root.inside.seqs.items c.root.inside.slip c.root.inside.seats.items c.enter_all.new.seats.items c.enter_all.new.turns.items c.root.invariant.0 c.enter_all.ensures.entered ∙ ap (λ (v : RootView). v.gates) c.root.view_is ∙ c.requires.root.gates ∙ sym (ap (λ (v : WorldView). v.gates) c.self.view_is) ∙ sym c.deref-in-Err.ensures.value

pub leave_all-requires-clause-held : goal.leave_all-requires-clause-held
leave_all-requires-clause-held g c = held c.root.inside.made c.root.inside.seqs.items c.root.inside.slip c.root.inside.seats.items c.enter_all.new.seats.items c.enter_all.new.turns.items c.root.invariant.0 c.enter_all.ensures.entered

pub invariant_of-root : goal.invariant_of-root
invariant_of-root g c =
    let fits = c.root.invariant.2 in
    let turns = c.of-rooms.ensures in (
      subst (λ s. KeepsRoot (config_of (gates_of s)) c.root.inside.made c.root.inside.seqs.items c.root.inside.slip s) (sym c.leave_all.ensures.back) (keeps-back c.root.inside.made c.root.inside.seqs.items c.root.inside.slip c.root.inside.seats.items c.enter_all.new.seats.items c.enter_all.new.turns.items c.root.invariant.0 c.enter_all.ensures.entered),
      subst AreAbove (sym c.leave_all.ensures.back) (above-back c.root.inside.made c.root.inside.seqs.items c.root.inside.slip c.root.inside.seats.items c.enter_all.new.seats.items c.enter_all.new.turns.items c.root.invariant.0 c.enter_all.ensures.entered c.root.invariant.1),
      rw (c.leave_all.ensures.back, c.of-rooms.ensures)
          (room-back c.root.inside.made c.root.inside.seqs.items c.root.inside.slip c.root.inside.seats.items c.enter_all.new.seats.items c.enter_all.new.turns.items c.root.invariant.0 c.enter_all.ensures.entered (record { turns = vec_capacity c.leave_all.new.turns; units = vec_capacity c.into_lists-turns.result.1 })
          (let kept = c.leave_all.ensures.room in let more = c.enter_all.ensures.room in let turns = c.into_lists-turns.ensures.turns in let units = c.into_lists-turns.ensures.units in let one = c.root.invariant.2.turns_fit in let two = c.root.invariant.2.units_fit in
          record { turns_fit = omega (arith, kept, more, turns, one); units_fit = omega (arith, units, two) })),
    )

pub returns-in-Ok-clause-closed : goal.returns-in-Ok-clause-closed
returns-in-Ok-clause-closed g c =
    let facts_of = facts g.R.Recorder.recorded g.R.Recorder.record_faults g.R.Recorder.absent g.R.Recorder.front in
    let none = ap (λ (v : RootView). v.out) c.root.view_is ∙ nothing-left c.args.root.out c.requires.none in
    let is = c.in-Ok.ensures ∙ ap (λ l. merged (map (λ (u : RecordedState). u.unit.kept) l)) c.as_slice.ensures.value in
    subst (λ (v : RootView). WasClosed facts_of g.R.Recorder.fits v c.close_all.new.units.items c.in-Ok.merged) c.root.view_is
    (was-closed c.root.inside.made c.root.inside.seqs.items c.root.inside.slip c.root.inside.seats.items c.enter_all.new.seats.items c.enter_all.new.turns.items c.root.invariant.0 c.enter_all.ensures.entered facts_of g.R.Recorder.fits c.close_all.new.units.items c.in-Ok.merged none c.close_all.ensures is)

pub returns-in-Err-clause-root : goal.returns-in-Err-clause-root
returns-in-Err-clause-root g c =
    let before = root_view (config_of (gates_of c.root.inside.seats.items)) c.root.inside.made c.root.inside.slip c.root.inside.seats.items in
    let after = root_view (config_of (gates_of c.leave_all.new.seats.items)) c.root.inside.made c.root.inside.slip c.leave_all.new.seats.items in
    subst (λ (v : RootView). WasHandedBack v after) c.root.view_is
    (subst (λ s. WasHandedBack before (root_view (config_of (gates_of s)) c.root.inside.made c.root.inside.slip s)) (sym c.leave_all.ensures.back) (handed-back c.root.inside.made c.root.inside.seqs.items c.root.inside.slip c.root.inside.seats.items c.enter_all.new.seats.items c.enter_all.new.turns.items c.root.invariant.0 c.enter_all.ensures.entered))
