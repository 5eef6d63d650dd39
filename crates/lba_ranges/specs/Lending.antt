-- What a range list ends as, once its room was lent
use Rattle.std.specs.Prelude.{List, Result}
use Rattle.std.specs.Borrow.{LendsIfOk, MutBor, Fml}
use Rattle.lba_ranges.specs.declared.ranges.Range.{Range}
use Rattle.cm_base.specs.Roomy.{Roomy}
use Rattle.lba_ranges.specs.contracts.ranges.RangeList as list
use Rattle.lba_ranges.specs.contracts.room.RangeListRoom as room

-- l ends as the ranges of the last value behind r, and at `Err` it stays as it is
abbrev pub LendsRoom : {E : Type 0} → MutBor (List Range) → Result (MutBor (Roomy Range)) E → Fml
LendsRoom l r = LendsIfOk list.the_row room.the_row l r (λ room. room.items) l.now
