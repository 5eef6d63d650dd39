-- A sense, as contracts see it
use Rattle.std.specs.Prelude.{ℕ}

-- SENSE KEY, ADDITIONAL SENSE CODE and ADDITIONAL SENSE CODE QUALIFIER (SPC-4)
pub record SenseCode : Type 0 where
  pub key : ℕ
  pub asc : ℕ
  pub ascq : ℕ
