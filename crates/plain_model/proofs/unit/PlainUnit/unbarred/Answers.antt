use Rattle.std.proofs.Common.{◌≡◌, ◌∙◌, ap}
use Rattle.std.specs.Option.{option_copied}
use Rattle.cm_history.specs.declared.act.Act.{Act}
use Rattle.cm_history.specs.Operations.{would_serve}
use Rattle.plain_model.proofs.unit.PlainUnit.unbarred.Goals as goal

pub returns-in-Advance : goal.returns-in-Advance
returns-in-Advance c =
    let served : option_copied c.would_serve.result ≡ would_serve c.args.self.now c.args.actor (Act.Advance c.in-Advance.id) =
    c.would_serve.ensures ∙ ap (would_serve c.args.self.now c.args.actor) c.in-Advance.is in
    rw c.in-Advance.is (rw (c.unit-unit.ensures.told, c.no_such_operation-otherwise.ensures, served) at c.progress.ensures)

pub returns-in-Pump : goal.returns-in-Pump
returns-in-Pump c =
    let served : option_copied c.would_serve-in-Pump.result ≡ would_serve c.args.self.now c.args.actor Act.Pump =
    c.would_serve-in-Pump.ensures ∙ ap (would_serve c.args.self.now c.args.actor) c.in-Pump.is in
    rw c.in-Pump.is (rw (c.unit-unit.ensures.told, served) at c.progress-in-Pump.ensures)
