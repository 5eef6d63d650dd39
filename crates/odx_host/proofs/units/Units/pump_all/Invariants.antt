use Rattle.std.specs.Prelude.{List}
use Rattle.cm_history.specs.declared.act.Entry.{Entry}
use Rattle.odx_host.specs.Units.{AreAfter}
use Rattle.odx_host.specs.inner.Acting.{HasGoneOn}
use Rattle.odx_host.proofs.units.Units.pump_all.Given as goal

abbrev pub invariant-units : goal.invariant-units
invariant-units l = (history : List Entry) → AreAfter l.config history l.fn.self → HasGoneOn l.config history l.self
