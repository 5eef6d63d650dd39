-- The list of units
use Rattle.std.proofs.Common.{◌≡◌, ℕ, zero, suc, ◌+◌, ◌*◌, ◌∷◌, ◌++◌, length, ap, refl, arith}
use Rattle.cm_base.specs.Fields.{zeros}
use Rattle.scsi_inquiry.specs.UnitData.{luns}

-- one more unit
pub luns-push : (first n unit : ℕ) → unit ≡ first + n → luns first (suc n) ≡ luns first n ++ (0 ∷ unit ∷ zeros 6)
luns-push first zero unit is = ap (λ u. 0 ∷ u ∷ zeros 6) (omega arith)
luns-push first (suc n) unit is = ap (λ l. 0 ∷ first ∷ zeros 6 ++ l) (luns-push (suc first) n unit (omega arith))

pub length-luns : (first n : ℕ) → length (luns first n) ≡ 8 * n
length-luns first zero = refl
length-luns first (suc n) = let rest = length-luns (suc first) n in omega arith
