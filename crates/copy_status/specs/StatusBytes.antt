-- The bytes that tell how a copy stands
use Rattle.std.specs.Prelude.{◌≡◌, ℕ, List, [], ◌∷◌, ◌++◌, length, Option, Some, None, is_some, if◌then◌else◌}
use Rattle.byteorder.specs.Endian.{big_bytes}
use Rattle.cm_base.specs.Fields.{zeros, counted}
use Rattle.scsi_sense.specs.SenseCode.{SenseCode}
use Rattle.scsi_sense.specs.SenseBytes.{sense_bytes}
use Rattle.copy_status.specs.CopyStatus.{CopyStatus}

-- completion status, and twice the length of the sense
abbrev pub completion : Option SenseCode → List ℕ
completion None = 0x00 ∷ 0x00 ∷ 0x00 ∷ []
completion (Some sense) = 0x02 ∷ 0x12 ∷ 0x12 ∷ []

-- the sense data, where there is a sense to tell
abbrev pub sense_data : Option SenseCode → List ℕ
sense_data None = []
sense_data (Some sense) = sense_bytes sense

-- bytes 4..31: service action, status, the milliseconds to wait while it runs, completion; F1h: the count is of blocks
abbrev pub fields_bytes : CopyStatus → List ℕ
fields_bytes f =
    (if f.populate then 0x10 else 0x11) ∷ f.status ∷ zeros 2 ++ big_bytes 4 (if f.running then 100 else 0)
    ++ completion f.sense ++ 0xf1 ∷ big_bytes 8 f.count ++ zeros 8

-- the 32 bytes before the sense
abbrev pub header_bytes : CopyStatus → ℕ → List ℕ
header_bytes f available = big_bytes 4 available ++ fields_bytes f

-- RECEIVE COPY STATUS(LID4)
abbrev pub status4_bytes : CopyStatus → List ℕ
status4_bytes f = counted (fields_bytes f ++ sense_data f.sense)

-- the token, where there is one
abbrev pub token_part : Option (List ℕ) → List ℕ
token_part None = big_bytes 4 0
token_part (Some token) = counted (zeros 2 ++ token)

-- RECEIVE ROD TOKEN INFORMATION
abbrev pub information_bytes : CopyStatus → Option (List ℕ) → List ℕ
information_bytes f token = counted (fields_bytes f ++ sense_data f.sense ++ token_part token)

-- RECEIVE COPY STATUS(LID1): 12 bytes
abbrev pub status1_bytes : ℕ → ℕ → ℕ → List ℕ
status1_bytes state segments bytes = counted (state ∷ big_bytes 2 segments ++ 0 ∷ big_bytes 4 bytes)

-- a token has 512 bytes
abbrev pub IsToken : Option (List ℕ) → Type 0
IsToken None = Unit {0}
IsToken (Some token) = length token ≡ 512

-- there is a token exactly where the operation is a POPULATE TOKEN
abbrev pub IsTokenOf : CopyStatus → Option (List ℕ) → Type 0
IsTokenOf s token = IsToken token × (is_some token ≡ s.populate)
