-- The bytes of a sense
use Rattle.std.specs.Prelude.{ℕ, List, ◌∷◌, ◌++◌}
use Rattle.cm_base.specs.Fields.{zeros}
use Rattle.scsi_sense.specs.SenseCode.{SenseCode}

-- fixed sense, 18 bytes
abbrev pub sense_bytes : SenseCode → List ℕ
sense_bytes s = 0x70 ∷ 0 ∷ s.key ∷ zeros 4 ++ 0x0a ∷ zeros 4 ++ s.asc ∷ s.ascq ∷ zeros 4
