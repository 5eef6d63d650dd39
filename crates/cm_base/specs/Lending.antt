-- What a list ends as, once its room was lent
use Rattle.std.specs.Prelude.{List, Result}
use Rattle.std.specs.Borrow.{LendsIfOk, MutBor, Fml, RattleType}
use Rattle.cm_base.specs.Roomy.{Roomy}
use Rattle.cm_base.specs.contracts.sequence.Sequence as sequence
use Rattle.cm_base.specs.contracts.room.SequenceRoom as room

-- l ends as the items of the last value behind r, and at `Err` it stays as it is
abbrev pub LendsRoom : (T : RattleType) {E : Type 0} → MutBor (List T.Denot) → Result (MutBor (Roomy T.Denot)) E → Fml
LendsRoom T l r = LendsIfOk (sequence.the_row T) (room.the_row T) l r (λ room. room.items) l.now
