use Rattle.std.proofs.Common.{◌≤◌, subst}
use Rattle.lba_ranges.specs.Denoted.{total}
use Rattle.copy_plan.specs.Plans.{Cursor}
use Rattle.copy_plan.proofs.Cursors.{at-within}
use Rattle.copy_plan.proofs.cursor.ExtentCursor.place.Goals as goal

pub returns-clause-within : goal.returns-clause-within
returns-clause-within c =
    subst (λ (s : Cursor). c.self.inside.place ≤ total s.extents) c.self.view_is (at-within _ _ _ _ c.self.invariant)
