use Rattle.std.proofs.Common.{sym, ◌∙◌, subst, arith}
use Rattle.std.proofs.lemmas.Result.{err_from_is_err_and}
use Rattle.cmd_program.specs.Meaning.{IsAskable, MayFollow}
use Rattle.cmd_program.specs.Exchanges.{outcomes_of}
use Rattle.odx_host.specs.Units.{host}
use Rattle.odx_host.proofs.Running.{come-first, ran-short, ran-done, some-left, come-on}
use Rattle.odx_host.proofs.unit_port.run.Goals as goal

pub acts-init : goal.acts-init
acts-init c = (
  c.requires.sound,
  λ history request after stands. come-first c.args.config.now history c.args.units.now request c.args.command.now after stands (c.short_law.ensures request),
)

pub returns-in_err-reply-clause-ran : goal.returns-in_err-reply-clause-ran
returns-in_err-reply-clause-ran c = λ history request after stands.
    let p = err_from_is_err_and c.from_residual.result c.from_residual.ensures.1 in
    let come = c.acts.invariant.1 history request after stands in
    rw p.1 (ran-short c.args.config.now history c.acts.units c.acts.units request c.acts.command c.acts.left p.0 come come.after)

pub returns-in-Done-clause-ran : goal.returns-in-Done-clause-ran
returns-in-Done-clause-ran c = λ history request after stands.
    let come = c.acts.invariant.1 history request after stands in
    ran-done c.args.config.now history c.acts.units request c.acts.command c.acts.left c.in-Done.reply come
    (sym c.in-Done.is ∙ c.in_ok-reply.ensures.next host request (outcomes_of come.events) come.stands)

pub overflow_sub-left : goal.overflow_sub-left
overflow_sub-left c =
    let m = c.requires.begun in
    let come = c.acts.invariant.1 m.stand.history m.request m.stand.after m.begun in
    some-left c.args.config.now m.stand.history c.acts.units c.acts.units m.request c.acts.command c.acts.command c.acts.left c.in-Do.unit c.in-Do.act come
    (sym c.in-Do.is ∙ c.in_ok-reply.ensures.next host m.request (outcomes_of come.events) come.stands)

pub act-requires : goal.act-requires
act-requires c =
    let m = c.requires.begun in
    let come = c.acts.invariant.1 m.stand.history m.request m.stand.after m.begun in
    record {
      config = c.args.config.now;
      stand = record { history = come.here; after = come.after };
      askable = subst (IsAskable c.args.config.now) c.in-Do.is c.in_ok-reply.ensures.asks;
    }

pub returns-in_err-outcome-in-Do-clause-ran : goal.returns-in_err-outcome-in-Do-clause-ran
returns-in_err-outcome-in-Do-clause-ran c = λ history request after stands.
    let p = err_from_is_err_and c.from_residual-in_err-outcome-in-Do.result c.from_residual-in_err-outcome-in-Do.ensures.1 in
    let come = c.acts.invariant.1 history request after stands in
    let done = c.in_err-outcome-in-Do.ensures.done c.args.config.now come.here come.after in
    rw p.1 (ran-short c.args.config.now history c.acts.units c.act.new.self request c.acts.command c.acts.left p.0 come done)

pub note-requires-clause-notable : goal.note-requires-clause-notable
note-requires-clause-notable c =
    let m = c.requires.begun in
    let come = c.acts.invariant.1 m.stand.history m.request m.stand.after m.begun in
    let asks = sym c.in-Do.is ∙ c.in_ok-reply.ensures.next host m.request (outcomes_of come.events) come.stands in
    record {
      nexus = host;
      request = m.request;
      outcomes = outcomes_of come.events;
      stands = come.stands;
      follows = subst (λ s. MayFollow c.args.config.now s c.in_ok-outcome-in-Do.outcome) asks (c.in_ok-outcome-in-Do.ensures.form c.args.config.now come.here come.after);
    }

pub acts-smaller : goal.acts-smaller
acts-smaller c =
    let m = c.requires.begun in
    let come = c.acts.invariant.1 m.stand.history m.request m.stand.after m.begun in
    let some = some-left c.args.config.now m.stand.history c.acts.units c.acts.units m.request c.acts.command c.acts.command c.acts.left c.in-Do.unit c.in-Do.act come
    (sym c.in-Do.is ∙ c.in_ok-reply.ensures.next host m.request (outcomes_of come.events) come.stands) in
    omega (arith, some)

pub acts-preserved : goal.acts-preserved
acts-preserved c = (
  c.note.ensures.sound,
  λ history request after stands.
      let config = c.args.config.now in
      let come = c.acts.invariant.1 history request after stands in
      come-on (Unit {0}) config history c.acts.units c.act.new.self request c.acts.command c.note.new.self c.acts.left c.in-Do.unit c.in-Do.act c.in_ok-outcome-in-Do.outcome come
      (sym c.in-Do.is ∙ c.in_ok-reply.ensures.next host request (outcomes_of come.events) come.stands)
      (c.in_ok-outcome-in-Do.ensures.done config come.here come.after)
      (c.note.ensures.stands host request (outcomes_of come.events) come.stands),
)
