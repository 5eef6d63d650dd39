use Rattle.std.proofs.Common.{◌∷◌, [], ◌++◌, refl, sym, ◌∙◌, subst, append-nil, arith}
use Rattle.std.specs.Prelude.{IfOk}
use Rattle.std.proofs.lemmas.List.Elements.{All-from_recursion}
use Rattle.cm_history.specs.Forms.{HasForm}
use Rattle.cmd_program.specs.Running.{Call, outcome_of}
use Rattle.cmd_program.specs.Meaning.{MayFollow}
use Rattle.cmd_program.specs.Judging.{step}
use Rattle.cmd_program.specs.Exchanges.{outcomes_of, calls_in}
use Rattle.cmd_machine.specs.Rest.{StandsFor}
use Rattle.any_cmds.specs.Meaning.{by_any}
use Rattle.session.specs.inner.Talking.{HasNext}
use Rattle.session.proofs.Running.{goes-first, has-replied, some-left, follows-found, goes-on, asks-on}
use Rattle.session.proofs.driver.run.Goals as goal

pub acts-init : goal.acts-init
acts-init g c = (
  c.requires.sound,
  refl,
  refl,
  c.requires.goes,
  λ request calls stands short made. record {
    events = [];
    is = goes-first c.args.config.now (g.R.Runs.number c.args.actor.now) request c.args.command stands;
    short = short;
    made = subst (g.R.Runs.StandsFor c.args.actor.now) (sym (append-nil calls)) made;
    shown = All-from_recursion (λ (x : Call). g.C.Clock.shows c.args.clock.now x.moment) [] tt;
  },
  refl,
)

pub returns-in-Done-clause-replied : goal.returns-in-Done-clause-replied
returns-in-Done-clause-replied g c = λ request calls stands short made.
    let config = c.args.config.now in
    let nexus = g.R.Runs.number c.args.actor.now in
    let h = c.acts.invariant.4 request calls stands short made in
    let n = subst (HasNext config nexus request c.next_step.new.command h.events c.acts.left) c.in-Done.is (c.next_step.ensures.next nexus request h.events c.acts.left h.is h.short) in
    has-replied config nexus request (g.C.Clock.shows c.args.clock.now) (g.R.Runs.StandsFor c.acts.actor) calls c.next_step.new.command h.events c.acts.left c.in-Done.reply n h.made h.shown

pub overflow_sub-left : goal.overflow_sub-left
overflow_sub-left g c =
    let config = c.args.config.now in
    let nexus = g.R.Runs.number c.args.actor.now in
    let h = c.acts.invariant.3 in
    let n = subst (HasNext config nexus h.request c.next_step.new.command h.events c.acts.left) c.in-Do.is (c.next_step.ensures.next nexus h.request h.events c.acts.left h.is h.short) in
    some-left config nexus h.request c.next_step.new.command h.events c.acts.left c.in-Do.unit c.in-Do.act n

pub acts-smaller : goal.acts-smaller
acts-smaller g c =
    let config = c.args.config.now in
    let nexus = g.R.Runs.number c.args.actor.now in
    let h = c.acts.invariant.3 in
    let n = subst (HasNext config nexus h.request c.next_step.new.command h.events c.acts.left) c.in-Do.is (c.next_step.ensures.next nexus h.request h.events c.acts.left h.is h.short) in
    let some = some-left config nexus h.request c.next_step.new.command h.events c.acts.left c.in-Do.unit c.in-Do.act n in
    omega arith

pub note-requires-clause-notable : goal.note-requires-clause-notable
note-requires-clause-notable g c =
    let config = c.args.config.now in
    let nexus = g.R.Runs.number c.args.actor.now in
    let h = c.acts.invariant.3 in
    let n = subst (HasNext config nexus h.request c.next_step.new.command h.events c.acts.left) c.in-Do.is (c.next_step.ensures.next nexus h.request h.events c.acts.left h.is h.short) in
    let found = c.run-found.result in
    let form = subst (λ k. IfOk found (λ a. HasForm k c.in-Do.unit c.in-Do.act a)) (c.acts.invariant.1 ∙ c.requires.config) c.run-found.ensures.form in
    let next = step config nexus h.request (outcomes_of (h.events ++ n.more)) in
    record {
      nexus = nexus;
      request = h.request;
      outcomes = outcomes_of (h.events ++ n.more);
      stands = n.is.stands;
      follows = subst (λ o. MayFollow config next o) (sym c.noted.ensures)
          (subst (λ s. MayFollow config s (outcome_of found)) n.next_is (follows-found config c.in-Do.unit c.in-Do.act found form));
    }

pub acts-preserved : goal.acts-preserved
acts-preserved g c =
    let config = c.args.config.now in
    let nexus = g.R.Runs.number c.args.actor.now in
    let h = c.acts.invariant.3 in
    let n = subst (HasNext config nexus h.request c.next_step.new.command h.events c.acts.left) c.in-Do.is (c.next_step.ensures.next nexus h.request h.events c.acts.left h.is h.short) in
    let stands = subst (λ o. StandsFor by_any config c.note.new.self nexus h.request (outcomes_of (h.events ++ n.more) ++ o ∷ [])) c.noted.ensures
    (c.note.ensures.stands nexus h.request (outcomes_of (h.events ++ n.more)) n.is.stands) in (
      c.note.ensures.sound,
      c.run-found.ensures.config ∙ c.acts.invariant.1,
      c.run-found.ensures.number ∙ c.acts.invariant.2,
      goes-on config nexus h.request c.next_step.new.command c.note.new.self h.events c.acts.left c.in-Do.unit c.now.result c.in-Do.act c.run-found.result n stands,
      λ request calls begun short made.
          let k = c.acts.invariant.4 request calls begun short made in
          let m = subst (HasNext config nexus request c.next_step.new.command k.events c.acts.left) c.in-Do.is (c.next_step.ensures.next nexus request k.events c.acts.left k.is k.short) in
          let so = subst (λ o. StandsFor by_any config c.note.new.self nexus request (outcomes_of (k.events ++ m.more) ++ o ∷ [])) c.noted.ensures
          (c.note.ensures.stands nexus request (outcomes_of (k.events ++ m.more)) m.is.stands) in
          asks-on config nexus request c.next_step.new.command c.note.new.self k.events c.acts.left c.in-Do.unit c.now.result c.in-Do.act c.run-found.result m
          (g.C.Clock.shows c.args.clock.now) (g.R.Runs.StandsFor c.run-found.new.self) calls so (c.run-found.ensures.made (calls ++ calls_in k.events) k.made) c.now.ensures.shown k.shown,
      c.run-found.ensures.unsettled ∙ c.acts.invariant.5,
    )
