use Rattle.odx_host.proofs.UnitsDo.{gone-none, gone-on, stand-on}
use Rattle.odx_host.proofs.units.Units.pump_unit.Goals as goal

pub pumps-init : goal.pumps-init
pumps-init c = λ config history after. gone-none config history c.args.self.now after

pub pump-requires : goal.pump-requires
pump-requires c = record {
  config = c.requires.config;
  stand = stand-on c.requires.config c.args.self.now c.pumps.self c.requires.stand (c.pumps.invariant c.requires.config);
  configured = c.requires.configured;
}

pub returns-in_err-pump : goal.returns-in_err-pump
returns-in_err-pump c = λ config history after.
    gone-on config history c.pumps.self c.pump.new.self (c.pumps.invariant config history after) (c.pump.ensures config)

pub pumps-preserved : goal.pumps-preserved
pumps-preserved c = λ config history after.
    gone-on config history c.pumps.self c.pump.new.self (c.pumps.invariant config history after) (c.pump.ensures config)

pub returns : goal.returns
returns c = c.pumps.invariant
