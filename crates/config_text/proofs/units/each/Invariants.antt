use Rattle.config_text.proofs.Found.{Found}
use Rattle.config_text.proofs.units.each.Given as goal

abbrev pub invariant-loop-index : goal.invariant-loop-index
invariant-loop-index l = Found l.tables.items l.index l.units
