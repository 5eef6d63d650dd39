-- What the data of a RECEIVE ROD TOKEN INFORMATION tells
use Rattle.std.specs.Prelude.{ℕ, ◌+◌, ◌==◌, List, length, drop, Option, Some, None, is_some, is_none, Bool, true, ◌&&◌, ◌||◌, nat_le, bytes_eq, if◌then◌else◌}
use Rattle.cm_base.specs.Fields.{byte, field, part}
use Rattle.scsi_sense.specs.SenseCode.{SenseCode}
use Rattle.cm_frame.specs.Reading.{sense_in}
use Rattle.copy_status.specs.CopyStatus.{CopyStatus, is_code}
use Rattle.copy_status.specs.StatusBytes.{sense_data, information_bytes}

-- the status of an operation, and the token that it made
pub record Information : Type 0 where
  pub status : CopyStatus
  pub token : Option (List ℕ)

-- a sense stands in bytes 32..49, unless its length is 0
abbrev pub sense_told : List ℕ → Option SenseCode
sense_told bytes = if byte bytes 13 == 0 then None else Some (sense_in (part 32 18 bytes))

-- the status of an operation, by the fields of its information
abbrev pub status_told : List ℕ → CopyStatus
status_told bytes = record {
  populate = byte bytes 4 == 0x10;
  status = byte bytes 5;
  running = (byte bytes 5 == 0x11) || (byte bytes 5 == 0x12);
  sense = sense_told bytes;
  count = field bytes 16 23;
}

-- the token of a POPULATE TOKEN stands behind the sense and the two lengths of its descriptor
abbrev pub token_told : List ℕ → Option (List ℕ)
token_told bytes = if byte bytes 4 == 0x10 then Some (drop (38 + length (sense_data (sense_told bytes))) bytes) else None

-- what RECEIVE ROD TOKEN INFORMATION tells: the status, and the token if there is one
abbrev pub information_told : List ℕ → Information
information_told bytes = record { status = status_told bytes; token = token_told bytes }

-- a sense has a key of four bits
abbrev pub is_key : Option SenseCode → Bool
is_key None = true
is_key (Some sense) = nat_le sense.key 15

-- a token has 512 bytes
abbrev pub is_token : Option (List ℕ) → Bool
is_token None = true
is_token (Some token) = length token == 512

-- a status that an operation may have, with a sense exactly where it failed
abbrev pub is_status : CopyStatus → Bool
is_status s = is_code s.status && (if s.status == 0x02 then is_some s.sense else is_none s.sense) && is_key s.sense && nat_le s.count 1_048_576

-- the bytes tell this, and nothing else
abbrev pub is_told : List ℕ → Information → Bool
is_told bytes i = is_status i.status && is_token i.token && bytes_eq bytes (information_bytes i.status i.token)

-- what the bytes tell, if they are the data of a RECEIVE ROD TOKEN INFORMATION
abbrev pub information_read : List ℕ → Option Information
information_read bytes = if is_told bytes (information_told bytes) then Some (information_told bytes) else None
