-- Where a cursor over blocks stands, as its fields tell it
use Rattle.std.specs.Prelude.{◌≡◌, ℕ, ◌+◌, ◌≤◌, ◌<◌, List, length, take, slice_get}
use Rattle.std.specs.Option.{ForSome, ForNone}
use Rattle.lba_ranges.specs.declared.ranges.Range.{Range}
use Rattle.lba_ranges.specs.Denoted.{total}
use Rattle.copy_plan.specs.Jobs.{AreExtents}
use Rattle.copy_plan.specs.declared.cursor.ExtentCursor.TheInside.{Inside}

-- the extents before `index` were passed, and so many blocks of the one there, but not all of them
pub record IsAt (extents : List Range) (index passed place : ℕ) : Type 0 where
  pub list : AreExtents extents
  pub within : index ≤ length extents
  pub inside : ForSome (slice_get extents index) (λ extent. passed < extent.count)
  pub ended : ForNone (slice_get extents index) (passed ≡ 0)
  pub passes : place ≡ total (take index extents) + passed

abbrev pub IsCursor : Inside → Type 0
IsCursor a = IsAt a.extents.now a.index a.passed a.place
