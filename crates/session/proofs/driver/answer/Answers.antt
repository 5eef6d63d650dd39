use Rattle.std.proofs.Common.{◌∷◌, [], refl, sym, subst, append-nil}
use Rattle.std.proofs.lemmas.List.Elements.{All-from_recursion}
use Rattle.cmd_program.specs.Running.{Call}
use Rattle.cmd_program.specs.Exchanges.{Wanted}
use Rattle.session.proofs.Running.{goes-first}
use Rattle.session.proofs.driver.answer.Goals as goal

pub returns-in-Err-clause-replied : goal.returns-in-Err-clause-replied
returns-in-Err-clause-replied g c = λ calls made. record {
  events = Wanted ∷ [];
  is = record { caused = (refl, tt); replied = c.busy_at_once_law.ensures c.args.config.now (g.R.Runs.number c.args.actor.now) c.args.request };
  made = subst (g.R.Runs.StandsFor c.args.actor.now) (sym (append-nil calls)) made;
  shown = All-from_recursion (λ (x : Call). g.C.Clock.shows c.args.clock.now x.moment) [] tt;
}

pub run-requires-clause-goes : goal.run-requires-clause-goes
run-requires-clause-goes g c = record {
  request = c.args.request;
  events = [];
  is = goes-first c.args.config.now (g.R.Runs.number c.args.actor.now) c.args.request c.in-Ok.command c.in-Ok.ensures.stands;
  short = c.requires.short;
}
