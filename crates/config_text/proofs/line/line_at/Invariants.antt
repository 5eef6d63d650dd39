use Rattle.config_text.proofs.Counted.{Counted}
use Rattle.config_text.proofs.line.line_at.Given as goal

abbrev pub invariant-loop-index : goal.invariant-loop-index
invariant-loop-index l = Counted l.text l.index l.line
