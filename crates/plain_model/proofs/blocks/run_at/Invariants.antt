use Rattle.std.proofs.Common.{◌≡◌, ◌+◌, ◌<◌, ℕ}
use Rattle.std.specs.Prelude.{is_some}
use Rattle.cm_history.specs.Blocks.{held}
use Rattle.plain_model.proofs.blocks.run_at.Given as goal

abbrev pub invariant-loop-count : goal.invariant-loop-count
invariant-loop-count l = (k : ℕ) → k < l.count → is_some (held l.past (l.block + k)) ≡ l.mapped
