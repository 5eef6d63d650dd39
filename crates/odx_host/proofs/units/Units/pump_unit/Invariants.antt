use Rattle.std.specs.Prelude.{List}
use Rattle.cm_base.specs.Configuration.{Configuration}
use Rattle.cm_history.specs.declared.act.Entry.{Entry}
use Rattle.odx_host.specs.Units.{AreAfter}
use Rattle.odx_host.specs.inner.Acting.{HasGoneOn}
use Rattle.odx_host.proofs.units.Units.pump_unit.Given as goal

abbrev pub invariant-pumps : goal.invariant-pumps
invariant-pumps l = (config : Configuration) (history : List Entry) → AreAfter config history l.fn.self → HasGoneOn config history l.self
