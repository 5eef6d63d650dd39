-- Conjunctions, negations and equality tests
use Rattle.std.proofs.Common.{◌≡◌, refl, true, false, Bool}
use Rattle.std.specs.Prelude.{◌&&◌, not}

pub and-assoc : (a b c : Bool) → ((a && b) && c) ≡ (a && (b && c))
and-assoc true b c = refl
and-assoc false b c = refl

pub off : (t : Bool) → not t ≡ true → t ≡ false
off true e = cc
off false e = refl
