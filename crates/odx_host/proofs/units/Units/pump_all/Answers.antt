use Rattle.std.proofs.Common.{arith}
use Rattle.odx_host.proofs.UnitsDo.{gone-none, gone-on, stand-on}
use Rattle.odx_host.proofs.units.Units.pump_all.Goals as goal

pub units-init : goal.units-init
units-init c = λ history after. gone-none c.args.config.now history c.args.self.now after

pub pump_unit-requires : goal.pump_unit-requires
pump_unit-requires c =
    let config = c.args.config.now in
    record {
      config = config;
      stand = stand-on config c.args.self.now c.units.self (record { history = c.requires.0; after = c.requires.1 }) c.units.invariant;
      configured = omega (arith, c.units-test.true, c.units.auto.unit-end, c.units-unit-end.ensures.count);
    }

pub returns-in_err-pump_unit : goal.returns-in_err-pump_unit
returns-in_err-pump_unit c = λ history after.
    gone-on c.args.config.now history c.units.self c.pump_unit.new.self (c.units.invariant history after) (c.pump_unit.ensures c.args.config.now)

pub units-preserved : goal.units-preserved
units-preserved c = λ history after.
    gone-on c.args.config.now history c.units.self c.pump_unit.new.self (c.units.invariant history after) (c.pump_unit.ensures c.args.config.now)

pub returns : goal.returns
returns c = c.units.invariant
