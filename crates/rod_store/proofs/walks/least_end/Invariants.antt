use Rattle.std.proofs.Common.{◌≡◌, take, false}
use Rattle.std.specs.List.{list_any}
use Rattle.rod_store.specs.Kept.{live, is_over_at}
use Rattle.rod_store.proofs.walks.least_end.Given as goal

-- none that was passed is over at the least end so far
abbrev pub invariant-loop-serial : goal.invariant-loop-serial
invariant-loop-serial g l = list_any (is_over_at l.least) (take l.serial-index (live l.tokens)) ≡ false
