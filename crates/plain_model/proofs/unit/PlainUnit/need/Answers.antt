use Rattle.std.proofs.Common.{◌≡◌, sym, subst}
use Rattle.cm_history.specs.declared.act.Act.{Act}
use Rattle.cm_history.specs.Room.{need, need_to_serve}
use Rattle.plain_model.proofs.unit.PlainUnit.need.Goals as goal

pub returns-in-Advance : goal.returns-in-Advance
returns-in-Advance c = subst (λ (a : Act). c.need_to_serve.result ≡ need c.args.self.now c.args.actor a) (sym c.in-Advance.is)
    (subst (λ (a : Act). c.need_to_serve.result ≡ need_to_serve c.args.self.now c.args.actor a) c.in-Advance.is c.need_to_serve.ensures)

pub returns-in-Pump : goal.returns-in-Pump
returns-in-Pump c = subst (λ (a : Act). c.need_to_serve-in-Pump.result ≡ need c.args.self.now c.args.actor a) (sym c.in-Pump.is)
    (subst (λ (a : Act). c.need_to_serve-in-Pump.result ≡ need_to_serve c.args.self.now c.args.actor a) c.in-Pump.is c.need_to_serve-in-Pump.ensures)

pub returns-in-End : goal.returns-in-End
returns-in-End c = subst (λ (a : Act). c.need_to_serve-in-End.result ≡ need c.args.self.now c.args.actor a) (sym c.in-End.is)
    (subst (λ (a : Act). c.need_to_serve-in-End.result ≡ need_to_serve c.args.self.now c.args.actor a) c.in-End.is c.need_to_serve-in-End.ensures)

pub returns-in-Abort : goal.returns-in-Abort
returns-in-Abort c = subst (λ (a : Act). c.need_to_serve-in-Abort.result ≡ need c.args.self.now c.args.actor a) (sym c.in-Abort.is)
    (subst (λ (a : Act). c.need_to_serve-in-Abort.result ≡ need_to_serve c.args.self.now c.args.actor a) c.in-Abort.is c.need_to_serve-in-Abort.ensures)

pub returns-in-Close : goal.returns-in-Close
returns-in-Close c = subst (λ (a : Act). c.need_to_serve-in-Close.result ≡ need c.args.self.now c.args.actor a) (sym c.in-Close.is)
    (subst (λ (a : Act). c.need_to_serve-in-Close.result ≡ need_to_serve c.args.self.now c.args.actor a) c.in-Close.is c.need_to_serve-in-Close.ensures)
