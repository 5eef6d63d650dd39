use Rattle.std.proofs.Common.{◌≡◌, drop}
use Rattle.rod_store.specs.Kept.{live, first, is_over_at}
use Rattle.rod_store.proofs.walks.first_over.Given as goal

-- what was passed is not over
abbrev pub invariant-loop-serial : goal.invariant-loop-serial
invariant-loop-serial g l = first (is_over_at l.moment) (drop l.serial-index (live l.tokens)) ≡ first (is_over_at l.moment) (live l.tokens)
