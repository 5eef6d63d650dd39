use Rattle.std.proofs.Common.{◌≡◌, ◌∙◌, ◌++◌, ◌∷◌, [], refl, ap, sym, subst, true}
use Rattle.std.specs.Prelude.{Some, is_some}
use Rattle.std.specs.Ordering.{nat_cmp}
use Rattle.std.specs.BTreeMap.{get}
use Rattle.cmd_program.specs.Judging.{step}
use Rattle.cmd_program.specs.Meaning.{MayFollow}
use Rattle.cmd_machine.specs.Rest.{StandsFor, IsSoundAt}
use Rattle.any_cmds.specs.Meaning.{by_any, IsSoundAny}
use Rattle.trace_check.proofs.Machining.{waits-there, its, mine, after-act, after-note, beside-act, noted-so, ran-on}
use Rattle.trace_check.proofs.machine.Machine.run.Goals as goal

pub note-requires-clause-notable : goal.note-requires-clause-notable
note-requires-clause-notable c =
    let m = c.args.self.now in
    let config = m.units.config in
    let w = c.in-Some.waiting in
    let found : get nat_cmp m.waiting c.args.initiator ≡ Some w = sym c.in-Some.ensures.value in
    let one = waits-there config c.requires.s m c.args.initiator w c.requires.is found in
    let told : c.config.result.now ≡ config = c.config.ensures ∙ c.in_ok-outcome.ensures.config in
    record {
      nexus = one.p.initiator;
      request = one.p.request;
      outcomes = one.p.outcomes;
      stands = subst (λ k. StandsFor by_any k w.command one.p.initiator one.p.request one.p.outcomes) (sym told) one.is.stands;
      follows = subst (λ k. MayFollow k (step k one.p.initiator one.p.request one.p.outcomes) c.in_ok-outcome.outcome) (sym told)
          (subst (λ next. MayFollow config next c.in_ok-outcome.outcome) (sym one.is.asks) c.in_ok-outcome.ensures.follows);
    }

pub note-requires-clause-sound : goal.note-requires-clause-sound
note-requires-clause-sound c =
    let m = c.args.self.now in
    let w = c.in-Some.waiting in
    let found : get nat_cmp m.waiting c.args.initiator ≡ Some w = sym c.in-Some.ensures.value in
    let one = waits-there m.units.config c.requires.s m c.args.initiator w c.requires.is found in
    let told : c.config.result.now ≡ m.units.config = c.config.ensures ∙ c.in_ok-outcome.ensures.config in
    subst (λ k. IsSoundAt IsSoundAny k w.command) (sym told) one.is.sound

pub returns : goal.returns
returns c = λ config s is.
    let m = c.args.self.now in
    let i = c.args.initiator in
    let w = c.in-Some.waiting in
    let found : get nat_cmp m.waiting i ≡ Some w = sym c.in-Some.ensures.value in
    let one = its config s m i c.args.moment w is found in
    let told : c.config.result.now ≡ config = c.config.ensures ∙ c.in_ok-outcome.ensures.config ∙ is.done.told in
    let noted = subst (λ k. StandsFor by_any k c.note.new.self one.p.initiator one.p.request (one.p.outcomes ++ c.in_ok-outcome.outcome ∷ [])) told
    (c.note.ensures.stands one.p.initiator one.p.request one.p.outcomes (subst (λ k. StandsFor by_any k w.command one.p.initiator one.p.request one.p.outcomes) (sym told) one.is.stands)) in (
      sym (ap is_some one.there),
      λ yes. ran-on config s m i c.args.moment w is found c.go_on.new.self
          (c.in_ok-go_on.ensures config (after-act config s m i c.args.moment w is found) (after-note config s m i c.args.moment w is found) (mine config s m i c.args.moment w is found)
          (beside-act config s m i c.args.moment w is found _ c.in_ok-outcome.ensures.config c.in_ok-outcome.ensures.entries refl c.in-Some.ensures.updates.1 c.in-Some.ensures.updates.2)
          (noted-so config s m i c.args.moment w is found c.note.new.self c.in_ok-outcome.outcome c.in_ok-outcome.ensures.outcome noted)),
    )
