use Rattle.trace_replay.proofs.UnitActs.{does-counted}
use Rattle.trace_replay.proofs.units.Units.act.Goals as goal

pub returns-clause-done : goal.returns-clause-done
returns-clause-done c = λ config entries h.
    does-counted config entries c.args.self.now c.ask.new.self h.pumped c.args.unit c.args.nexus c.args.seq c.args.moment c.args.act c.ask.result c.ask.ensures.pumps
    (c.ask.ensures.done config entries h.done)

pub returns-clause-form : goal.returns-clause-form
returns-clause-form c = λ config entries h. c.ask.ensures.form config entries h.done
