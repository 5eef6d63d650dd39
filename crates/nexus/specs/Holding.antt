-- A unit's turn that a pass keeps
use Rattle.std.specs.Prelude.{◌≡◌, ◌≤◌, ℕ, List, [], slice_get, slice_set, slice_index, slice_index_or, Some, true, false}
use Rattle.merged_history.specs.Passes.{of_unit}
use Rattle.turn_gate.specs.Marks.{AtMost}
use Rattle.unit_gate.specs.Recorded.{RecordedState, StandsFor, kin_of, marks_of}
use Rattle.nexus.specs.Worlds.{UnitGate, PassView, IsTurnOf}

pub record HoldView : Type 0 where
  pub unit : ℕ
  pub turn : RecordedState

-- the pass holds the unit, and has seen its whole history
pub record IsHeldAt (pass : PassView) (hold : HoldView) : Type 0 where
  pub holds : slice_index_or pass.holds hold.unit false ≡ true
  pub stands : StandsFor hold.turn (of_unit pass.seen hold.unit)
  pub gate : UnitGate
  pub at : slice_get pass.gates hold.unit ≡ Some gate
  pub kin_is : gate.kin ≡ Some (kin_of hold.turn)
  pub marks : slice_index_or pass.marks hold.unit [] ≡ marks_of hold.turn

-- the pass has taken the unit's turn, and has seen the history
pub record HasTaken (before after : PassView) (unit : ℕ) : Type 0 where
  pub turn : IsTurnOf before unit (of_unit after.seen unit)
  pub marks : AtMost (slice_index_or before.marks unit []) (slice_index_or after.marks unit [])
  pub pass : after ≡ record before {
    seen = slice_set before.seen unit (of_unit after.seen unit);
    holds = slice_set before.holds unit true;
    marks = slice_set before.marks unit (slice_index_or after.marks unit []);
  }

-- the pass has waited for the unit's turn, which it may have found taken, and has taken it then
pub record HasWaited (before after : PassView) (unit : ℕ) : Type 0 where
  pub misses : slice_index before.misses unit ≤ slice_index after.misses unit
  pub taken : HasTaken (record before { misses = slice_set before.misses unit (slice_index after.misses unit) }) after unit
