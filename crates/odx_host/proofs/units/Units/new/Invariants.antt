use Rattle.std.proofs.Common.{◌≡◌, ℕ, [], length}
use Rattle.std.specs.Prelude.{Some, slice_get}
use Rattle.unit_core.specs.UnitState.{UnitState}
use Rattle.unit_core.specs.Unfolded.{IsUnfolded, unfolded}
use Rattle.odx_host.proofs.units.Units.new.Given as goal

abbrev pub invariant-loop-unit : goal.invariant-loop-unit
invariant-loop-unit l =
    (length l.units.items ≡ l.unit)
    × ((u : ℕ) (x : UnitState) → slice_get l.units.items u ≡ Some x → (unfolded x ≡ record { config = l.config; unit = u; entries = [] }) × IsUnfolded x)
