use Rattle.std.proofs.Common.{◌≡◌, ◌≤◌, ◌-◌, ℕ, List, [], length}
use Rattle.std.specs.Prelude.{Some, slice_get}
use Rattle.cm_history.specs.Deeds.{Deed}
use Rattle.plain_model.proofs.units.PlainUnits.new.Given as goal

abbrev pub invariant-loop-units : goal.invariant-loop-units
invariant-loop-units l = (length l.units.items ≤ l.count) × ((u : ℕ) (past : List Deed) → slice_get l.units.items u ≡ Some past → past ≡ [])

abbrev pub decreases-loop-units : goal.decreases-loop-units
decreases-loop-units l = l.count - length l.units.items
