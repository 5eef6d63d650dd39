use Rattle.std.proofs.Common.{◌≡◌, length, ap, sym, ◌∙◌, subst}
use Rattle.cm_history.proofs.PublicLaws.{Each}
use Rattle.unit_gate.specs.Recorded.{facts}
use Rattle.unit_gate.specs.SeatActs.{UnitSeat}
use Rattle.nexus.specs.Worlds.{WorldView}
use Rattle.nexus.specs.Roots.{RootView}
use Rattle.nexus.specs.Closing.{WasEnded}
use Rattle.nexus.proofs.Leaving.{nothing-left}
use Rattle.nexus.proofs.Closings.{are-alone, gates-held, held, ready, was-ended}
use Rattle.nexus.proofs.world.World.end.Goals as goal

pub enter_all-requires-clause-alone : goal.enter_all-requires-clause-alone
enter_all-requires-clause-alone g c =
    let none : length c.root.inside.slip.out ≡ 0 = ap (λ (v : RootView). length v.out) c.root.view_is ∙ c.requires.none in
    are-alone c.root.inside.seats.items c.root.invariant.0.free (subst (λ n. Each (λ (s : UnitSeat). s.out ≡ n) c.root.inside.seats.items) none c.root.invariant.0.outs) c.root.invariant.0.firsts

pub close_all-requires-clause-gates : goal.close_all-requires-clause-gates
close_all-requires-clause-gates g c = gates-held c.root.inside.made c.root.inside.seqs.items c.root.inside.slip c.root.inside.seats.items c.enter_all.new.seats.items c.enter_all.new.turns.items c.root.invariant.0 c.enter_all.ensures.entered ∙ ap (λ (v : RootView). v.gates) c.root.view_is ∙ c.requires.root.gates ∙ sym (ap (λ (v : WorldView). v.gates) c.self.view_is)

pub close_all-requires-clause-ready : goal.close_all-requires-clause-ready
close_all-requires-clause-ready g c = ready c.root.inside.made c.root.inside.seqs.items c.root.inside.slip c.root.inside.seats.items c.enter_all.new.seats.items c.enter_all.new.turns.items c.root.invariant.0 c.enter_all.ensures.entered (ap (λ (v : RootView). v.out) c.root.view_is ∙ nothing-left c.args.root.out c.requires.none)

pub close_all-requires-clause-held : goal.close_all-requires-clause-held
close_all-requires-clause-held g c = held c.root.inside.made c.root.inside.seqs.items c.root.inside.slip c.root.inside.seats.items c.enter_all.new.seats.items c.enter_all.new.turns.items c.root.invariant.0 c.enter_all.ensures.entered

pub returns : goal.returns
returns g c =
    let facts_of = facts g.R.Recorder.recorded g.R.Recorder.record_faults g.R.Recorder.absent g.R.Recorder.front in
    let none = ap (λ (v : RootView). v.out) c.root.view_is ∙ nothing-left c.args.root.out c.requires.none in
    subst (λ (v : RootView). WasEnded facts_of g.R.Recorder.fits v c.close_all.new.units.items) c.root.view_is
    (was-ended c.root.inside.made c.root.inside.seqs.items c.root.inside.slip c.root.inside.seats.items c.enter_all.new.seats.items c.enter_all.new.turns.items c.root.invariant.0 c.enter_all.ensures.entered facts_of g.R.Recorder.fits c.close_all.new.units.items none c.close_all.ensures)
