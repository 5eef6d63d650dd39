-- The table of the commands, and what it reads in a CDB
use Rattle.std.specs.Prelude.{ℕ, ◌-◌, ◌==◌, List, [], ◌∷◌, ◌++◌, find, Option, Some, None, Result, Ok, Err, Bool, true, false, not, ◌&&◌, ◌||◌, nat_lt, if◌then◌else◌}
use Rattle.std.specs.Option.{option_map_or}
use Rattle.cm_base.specs.Fields.{byte, field, bits, bit}
use Rattle.scsi_sense.specs.SenseCode.{SenseCode}
use Rattle.scsi_sense.specs.Codes.{invalid_operation_code, invalid_field_in_cdb}
use Rattle.scsi_cdb.specs.declared.cdb.Cdb.{Cdb}

-- A row: operation code, service action where there is one, bytes of the CDB, and what the bytes ask for
pub record Row : Type 0 where
  pub code : ℕ
  pub action : Option ℕ
  pub size : ℕ
  pub command : List ℕ → Cdb

-- a row with no service action
abbrev pub plain_row : ℕ → ℕ → (List ℕ → Cdb) → Row
plain_row code size command = record { code = code; action = None; size = size; command = command }

-- a row with a service action, whose CDB has 16 bytes
abbrev pub action_row : ℕ → ℕ → (List ℕ → Cdb) → Row
action_row code action command = record { code = code; action = Some action; size = 16; command = command }

-- a row with a service action, whose CDB has 10 bytes
abbrev pub short_row : ℕ → ℕ → (List ℕ → Cdb) → Row
short_row code action command = record { code = code; action = Some action; size = 10; command = command }

-- the commands that have an operation code of their own, with the fields that are read in their CDBs (SPC-4, SBC-3)
abbrev pub plain_rows : List Row
plain_rows =
    plain_row 0x00 6 (λ b. Cdb.TestUnitReady)
    ∷ plain_row 0x03 6 (λ b. Cdb.RequestSense (byte b 4))
    ∷ plain_row 0x12 6 (λ b. Cdb.Inquiry (bit b 1 0) (byte b 2) (field b 3 4))
    ∷ plain_row 0x25 10 (λ b. Cdb.ReadCapacity10)
    ∷ plain_row 0x28 10 (λ b. Cdb.Read (field b 2 5) (field b 7 8))
    ∷ plain_row 0x2a 10 (λ b. Cdb.Write (field b 2 5) (field b 7 8))
    ∷ plain_row 0x42 10 (λ b. Cdb.Unmap (field b 7 8))
    ∷ plain_row 0x88 16 (λ b. Cdb.Read (field b 2 9) (field b 10 13))
    ∷ plain_row 0x8a 16 (λ b. Cdb.Write (field b 2 9) (field b 10 13))
    ∷ plain_row 0xa0 12 (λ b. Cdb.ReportLuns (field b 6 9)) ∷ []

-- the commands of one operation code and many service actions: third-party copies, and SERVICE ACTION IN(16)
abbrev pub action_rows : List Row
action_rows =
    action_row 0x83 0x00 (λ b. Cdb.ExtendedCopy (field b 10 13))
    ∷ action_row 0x83 0x10 (λ b. Cdb.PopulateToken (field b 6 9) (field b 10 13))
    ∷ action_row 0x83 0x11 (λ b. Cdb.WriteUsingToken (field b 6 9) (field b 10 13))
    ∷ action_row 0x83 0x1c (λ b. Cdb.CopyAbort (field b 2 5))
    ∷ action_row 0x84 0x00 (λ b. Cdb.CopyStatus1 (byte b 2) (field b 10 13))
    ∷ action_row 0x84 0x03 (λ b. Cdb.CopyParameters (field b 10 13))
    ∷ action_row 0x84 0x05 (λ b. Cdb.CopyStatus4 (field b 2 5) (field b 10 13))
    ∷ action_row 0x84 0x07 (λ b. Cdb.TokenInformation (field b 2 5) (field b 10 13))
    ∷ action_row 0x9e 0x10 (λ b. Cdb.ReadCapacity16 (field b 10 13))
    ∷ action_row 0x9e 0x12 (λ b. Cdb.GetLbaStatus (field b 2 9) (field b 10 13)) ∷ []

-- PERSISTENT RESERVE OUT with a service action: scope, type and parameter list length
abbrev pub out_row : ℕ → Row
out_row action = short_row 0x5f action (λ b. Cdb.PersistentOut action (bits b 2 7 4) (bits b 2 3 0) (field b 5 8))

-- PERSISTENT RESERVE IN with a service action
abbrev pub in_row : ℕ → Row
in_row action = short_row 0x5e action (λ b. Cdb.PersistentIn action (field b 7 8))

-- the persistent reservations (SPC-4)
abbrev pub reservation_rows : List Row
reservation_rows =
    out_row 0x00 ∷ out_row 0x01 ∷ out_row 0x02 ∷ out_row 0x03 ∷ out_row 0x04 ∷ out_row 0x06
    ∷ in_row 0x00 ∷ in_row 0x01 ∷ []

-- the row is that of the CDB, whose service action is in bits 4..0 of byte 1
abbrev pub is_row_of : List ℕ → Row → Bool
is_row_of b r = (byte b 0 == r.code) && option_map_or (λ action. bits b 1 4 0 == action) r.action true

-- the row of the CDB, if there is one
abbrev pub row_of : List ℕ → Option Row
row_of b = find (is_row_of b) (plain_rows ++ action_rows ++ reservation_rows)

-- protection, more than 2048 blocks, ANCHOR or DESC
abbrev pub has_bad_field : List ℕ → Cdb → Bool
has_bad_field b (Cdb.Read lba count) = not (bits b 1 7 5 == 0) || nat_lt 2048 count
has_bad_field b (Cdb.Write lba count) = not (bits b 1 7 5 == 0) || nat_lt 2048 count
has_bad_field b (Cdb.Unmap length) = bit b 1 0
has_bad_field b (Cdb.RequestSense length) = bit b 1 0
has_bad_field b _ = false

-- NACA is bit 2 of CONTROL
abbrev pub has_fault : List ℕ → Row → Bool
has_fault b r = bit b (r.size - 1) 2 || has_bad_field b (r.command b)

-- what the 16 bytes ask for; a CDB of no row is refused, and so is one with a bad field
abbrev pub decoded : List ℕ → Result Cdb SenseCode
decoded b =
    option_map_or (λ r. if has_fault b r then Err invalid_field_in_cdb else Ok (r.command b)) (row_of b)
    (Err invalid_operation_code)
