use Rattle.std.proofs.Common.{◌≡◌, ℕ, [], length}
use Rattle.std.specs.Prelude.{Some, slice_get}
use Rattle.unit_core.specs.UnitState.{UnitState}
use Rattle.unit_core.specs.Unfolded.{IsUnfolded, unfolded}
use Rattle.session.proofs.runs.UnitRuns.new.Given as goal

abbrev pub invariant-loop-unit : goal.invariant-loop-unit
invariant-loop-unit l =
    (length l.units.items ≡ l.unit)
    × ((u : ℕ) (s : UnitState) → slice_get l.units.items u ≡ Some s → (unfolded s ≡ record { config = l.fn.config; unit = u; entries = [] }) × IsUnfolded s)
