use Rattle.std.specs.Prelude.{map}
use Rattle.std.specs.Option.{option_copied}
use Rattle.merged_history.specs.inner.Merging.{Found}
use Rattle.merged_history.proofs.merging.next_unit.Given as goal

abbrev pub invariant-loop-unit : goal.invariant-loop-unit
invariant-loop-unit g l = Found (map g.T.Kept.entries l.units) l.at l.unit l.best (option_copied l.first)
