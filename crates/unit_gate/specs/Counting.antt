-- What is counted of a unit after a history
use Rattle.std.specs.Prelude.{ℕ, List, length}
use Rattle.cm_base.specs.Configuration.{Configuration}
use Rattle.cm_base.specs.Units.{unit_of}
use Rattle.cm_history.specs.declared.act.Entry.{Entry}
use Rattle.cm_history.specs.Blocks.{mapped}
use Rattle.cm_history.specs.Folding.{live_in}
use Rattle.cm_history.specs.History.{past_of}
use Rattle.unit_gate.specs.declared.recorded_unit.UnitCount.{UnitCount}

-- its entries, the tokens that are live behind the last of them, and the blocks that are mapped then
abbrev pub count_over : Configuration → ℕ → List Entry → UnitCount
count_over config unit history = record {
  steps = length history;
  live = live_in (past_of config unit history);
  mapped = mapped (unit_of config unit) (past_of config unit history);
}
