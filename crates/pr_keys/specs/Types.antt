-- The types of persistent reservations (SPC-4)
use Rattle.std.specs.Prelude.{ℕ, Option, Some, None, ◌==◌, if◌then◌else◌}
use Rattle.pr_keys.specs.declared.kind.ReservationType.{ReservationType}
use Rattle.pr_keys.specs.declared.kind.ReservationType.TheVariants.{WriteExclusive, ExclusiveAccess, WriteExclusiveRegistrantsOnly, ExclusiveAccessRegistrantsOnly}

-- the type of a code
abbrev pub type_of : ℕ → Option ReservationType
type_of code =
    if code == 0x1 then Some WriteExclusive else
    if code == 0x3 then Some ExclusiveAccess else
    if code == 0x5 then Some WriteExclusiveRegistrantsOnly else
    if code == 0x6 then Some ExclusiveAccessRegistrantsOnly else
    None

-- the code of a type
abbrev pub type_code : ReservationType → ℕ
type_code WriteExclusive = 0x1
type_code ExclusiveAccess = 0x3
type_code WriteExclusiveRegistrantsOnly = 0x5
type_code ExclusiveAccessRegistrantsOnly = 0x6
