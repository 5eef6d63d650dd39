-- Units whose records are never folded
use Rattle.std.specs.Prelude.{◌≡◌, ℕ, List, slice_get, Some}
use Rattle.unit_core.specs.UnitState.{UnitState}
use Rattle.unit_core.specs.Unfolded.{IsUnfolded}

-- each unit keeps all its entries
abbrev pub KeepAll : List UnitState → Type 0
KeepAll units = (u : ℕ) (s : UnitState) → slice_get units u ≡ Some s → IsUnfolded s
