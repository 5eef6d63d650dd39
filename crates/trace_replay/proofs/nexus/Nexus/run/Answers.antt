use Rattle.std.proofs.Common.{ap, sym, ◌∙◌, subst, ◌∷◌, []}
use Rattle.std.specs.Prelude.{◌||◌}
use Rattle.cmd_program.specs.Meaning.{MayFollow}
use Rattle.cmd_program.specs.Stepping.{gives_up, gave_up}
use Rattle.trace_replay.specs.ReplayState.{noted}
use Rattle.trace_replay.specs.inner.Machines.{HasActed}
use Rattle.trace_replay.proofs.CommandSteps.{gave-up-more}
use Rattle.trace_replay.proofs.Running.{has-run}
use Rattle.trace_replay.proofs.nexus.Nexus.run.Goals as goal

pub note-requires-clause-notable : goal.note-requires-clause-notable
note-requires-clause-notable c =
    let p = c.requires.p in
    let d = c.in_ok-outcome.ensures c.args.config.now c.requires.entries c.requires.counted c.requires.seq in
    record {
      nexus = p.initiator;
      request = p.request;
      outcomes = p.outcomes;
      stands = c.requires.waiting.command.stands;
      follows = subst (λ s. MayFollow c.args.config.now s c.in_ok-outcome.outcome) (sym c.requires.waiting.asks) d.follows;
    }

pub go_on-requires-clause-stands : goal.go_on-requires-clause-stands
go_on-requires-clause-stands c =
    let p = c.requires.p in
    record {
      p = noted p (c.in_ok-outcome.outcome ∷ []);
      is = record {
        stands = c.note.ensures.stands p.initiator p.request p.outcomes c.requires.waiting.command.stands;
        gave_up = c.has_given_up-given_up.ensures ∙ ap (λ b. b || gives_up c.in_ok-outcome.outcome) c.requires.waiting.command.gave_up
            ∙ sym (gave-up-more p.outcomes c.in_ok-outcome.outcome);
      };
    }

pub returns : goal.returns
returns c = λ entries p w same counted right.
    let found = c.in_ok-outcome.outcome in
    let acted = c.in_ok-outcome.ensures c.args.config.now entries counted right in
    let given = subst (λ g. HasActed c.args.config.now entries c.args.initiator c.args.waiting.unit c.args.moment c.args.waiting.act g c.do_act.new.units c.do_act.new.self.seq found) w.command.gave_up acted in
    let mine = subst (λ i. HasActed c.args.config.now entries i c.args.waiting.unit c.args.moment c.args.waiting.act (gave_up p.outcomes) c.do_act.new.units c.do_act.new.self.seq found) (sym same) given in
    let went = c.go_on.ensures.went (noted p (found ∷ [])) (record {
      stands = c.note.ensures.stands p.initiator p.request p.outcomes w.command.stands;
      gave_up = c.has_given_up-given_up.ensures ∙ ap (λ b. b || gives_up found) w.command.gave_up ∙ sym (gave-up-more p.outcomes found);
    }) in
    has-run c.args.config.now entries p c.args.waiting.unit c.args.moment c.args.waiting.act c.do_act.new.units c.go_on.new.self c.go_on.result found
    c.do_act.new.self.seq mine c.go_on.ensures.seq went.0 went.1 went.2
