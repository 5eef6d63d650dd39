-- What stands at the front of some bytes: a whole value, a fault at a place, or too little to tell
use Rattle.std.specs.Prelude.{◌≡◌, ℕ, zero, suc, ◌+◌, ◌*◌, List, [], ◌∷◌, length, take, drop, Option, Some, None, Bool, ◌==◌, ◌&&◌, ◌||◌, not, nat_lt, nat_le, if◌then◌else◌, bytes_eq}
use Rattle.cm_base.specs.Configuration.{Configuration}
use Rattle.cm_base.specs.declared.config.UnitConfig.{UnitConfig}
use Rattle.scsi_sense.specs.SenseCode.{SenseCode}
use Rattle.cm_frame.specs.declared.frame.Request.{Request}
use Rattle.cm_frame.specs.declared.frame.Reply.{Reply}
use Rattle.cm_frame.specs.declared.item.TraceItem.{TraceItem}
use Rattle.cm_base.specs.declared.parsed.Parsed.{Parsed}
use Rattle.cm_base.specs.declared.parsed.Parsed.TheVariants.{Whole, Short, Bad}
use Rattle.cm_base.specs.Fields.{byte, field, part, is_between}
use Rattle.scsi_sense.specs.SenseBytes.{sense_bytes}
use Rattle.cm_frame.specs.Grammar.{data_limit, header_text}

-- ---- headers

-- the place of the first field that breaks its limit
abbrev pub first_broken : List (ℕ × Bool) → Option ℕ
first_broken [] = None
first_broken (check ∷ checks) = if check.1 then first_broken checks else Some check.0

-- the fields of a unit's 32 bytes, each with whether it keeps its limit
abbrev pub unit_checks : List ℕ → List (ℕ × Bool)
unit_checks bytes =
    (0, is_between 1 4_294_967_296 (field bytes 0 7))
    ∷ (8, (field bytes 8 11 == 512) || (field bytes 8 11 == 4096))
    ∷ (12, is_between 1 1_048_576 (field bytes 12 15))
    ∷ (16, nat_le (field bytes 16 23) (field bytes 0 7))
    ∷ (24, is_between 1 268_435_456 (field bytes 24 27))
    ∷ (28, nat_le (byte bytes 28) 15)
    ∷ (29, field bytes 29 31 == 0)
    ∷ []

-- the unit that 32 bytes spell
abbrev pub unit_in : List ℕ → UnitConfig
unit_in bytes = record {
  blocks = field bytes 0 7;
  block_length = field bytes 8 11;
  entries = field bytes 12 15;
  quota = field bytes 16 23;
  payload = field bytes 24 27;
  group = byte bytes 28;
}

-- `n` units, 32 bytes each
abbrev pub units_in : ℕ → List ℕ → List UnitConfig
units_in zero bytes = []
units_in (suc n) bytes = unit_in bytes ∷ units_in n (drop 32 bytes)

-- the faults of a unit at a place, and else those of the units behind it
abbrev pub or_later : ℕ → Option ℕ → Option ℕ → Option ℕ
or_later place None later = later
or_later place (Some fault) later = Some (place + fault)

-- the first fault of `n` units, of which the first stands at a place
abbrev pub units_fault : ℕ → ℕ → List ℕ → Option ℕ
units_fault zero place bytes = None
units_fault (suc n) place bytes = or_later place (first_broken (unit_checks bytes)) (units_fault n (place + 32) (drop 32 bytes))

-- the number of units that a header tells
abbrev pub units_told : List ℕ → ℕ
units_told bytes = field bytes 40 41

-- the configuration that a header spells: the secret is bytes 8..39, and the units stand from byte 42 on
abbrev pub config_in : List ℕ → Configuration
config_in bytes = record { secret = part 8 32 bytes; units = units_in (units_told bytes) (drop 42 bytes) }

-- the whole header, unless a unit in it has a fault
abbrev pub judged_units : List ℕ → Option ℕ → Parsed Configuration
judged_units bytes (Some place) = Bad place
judged_units bytes None = Whole (config_in bytes) (42 + 32 * units_told bytes)

-- The first 42 bytes are judged when they are there, and the units when all of them are.
abbrev pub read_header : List ℕ → Parsed Configuration
read_header bytes =
    if nat_lt (length bytes) 42 then Short
    else if not (bytes_eq (take 8 bytes) header_text) then Bad 0
    else if not (is_between 1 16 (units_told bytes)) then Bad 40
    else if nat_lt (length bytes) (42 + 32 * units_told bytes) then Short
    else judged_units bytes (units_fault (units_told bytes) 42 (drop 42 bytes))

-- ---- requests

-- the request that the bytes begin with
abbrev pub request_in : List ℕ → Request
request_in bytes = record { unit = field bytes 4 5; cdb = part 6 16 bytes; out = part 22 (field bytes 0 3) bytes }

-- The length of the data is judged as soon as its four bytes are there.
abbrev pub read_request : List ℕ → Parsed Request
read_request bytes =
    if nat_lt (length bytes) 4 then Short
    else if nat_lt data_limit (field bytes 0 3) then Bad 0
    else if nat_lt (length bytes) (22 + field bytes 0 3) then Short
    else Whole (request_in bytes) (22 + field bytes 0 3)

-- ---- items

-- an item that begins a command, 13 bytes before its request
abbrev pub begin_in : List ℕ → Parsed Request → Parsed TraceItem
begin_in bytes (Whole request used) = Whole (TraceItem.Begin (field bytes 1 4) (field bytes 5 12) request) (13 + used)
begin_in bytes Short = Short
begin_in bytes (Bad place) = Bad (13 + place)

-- a Run of 13 bytes: its kind, the initiator and the moment
abbrev pub read_run : List ℕ → Parsed TraceItem
read_run bytes = if nat_lt (length bytes) 13 then Short else Whole (TraceItem.Run (field bytes 1 4) (field bytes 5 12)) 13

-- a Pump of 11 bytes: its kind, the unit and the moment
abbrev pub read_pump : List ℕ → Parsed TraceItem
read_pump bytes = if nat_lt (length bytes) 11 then Short else Whole (TraceItem.Pump (field bytes 1 2) (field bytes 3 10)) 11

-- The kind is judged at once, and the length of the data as a request judges it.
abbrev pub read_item : List ℕ → Parsed TraceItem
read_item bytes =
    if nat_lt (length bytes) 1 then Short
    else if byte bytes 0 == 1 then begin_in bytes (read_request (drop 13 bytes))
    else if byte bytes 0 == 2 then read_run bytes
    else if byte bytes 0 == 3 then read_pump bytes
    else Bad 0

-- an item stands at the front, in so many bytes
abbrev pub HasItem : List ℕ → ℕ → Type 0
HasItem bytes used = (item : TraceItem) × (read_item bytes ≡ Whole item used)

-- ---- replies

-- the statuses GOOD, CHECK CONDITION, BUSY, RESERVATION CONFLICT and TASK SET FULL
abbrev pub is_status : ℕ → Bool
is_status s = (s == 0x00) || (s == 0x02) || (s == 0x08) || (s == 0x18) || (s == 0x28)

-- the sense that 18 bytes spell, if they spell one
abbrev pub sense_in : List ℕ → SenseCode
sense_in bytes = record { key = byte bytes 2; asc = byte bytes 12; ascq = byte bytes 13 }

-- they are sense data in fixed format that a target of this profile writes
abbrev pub is_sense : List ℕ → Bool
is_sense bytes = nat_le (byte bytes 2) 15 && bytes_eq bytes (sense_bytes (sense_in bytes))

-- the reply CHECK CONDITION at the front of some bytes, with its sense data
abbrev pub read_check : List ℕ → Parsed Reply
read_check bytes =
    if nat_lt (length bytes) 24 then Short
    else if not (is_sense (part 6 18 bytes)) then Bad 6
    else Whole (Reply.Check (sense_in (part 6 18 bytes))) 24

-- the reply GOOD at the front of some bytes, with its data
abbrev pub read_good : List ℕ → Parsed Reply
read_good bytes =
    if nat_lt (length bytes) (6 + field bytes 2 5) then Short
    else Whole (Reply.Good (part 6 (field bytes 2 5) bytes)) (6 + field bytes 2 5)

-- the reply of a status behind which there is neither sense nor data
abbrev pub bare_reply : ℕ → Reply
bare_reply status = if status == 0x08 then Reply.Busy else if status == 0x18 then Reply.Conflict else Reply.Full

-- Status, length of the sense and length of the data are judged when their six bytes are there.
abbrev pub read_reply : List ℕ → Parsed Reply
read_reply bytes =
    if nat_lt (length bytes) 6 then Short
    else if not (is_status (byte bytes 0)) then Bad 0
    else if not (byte bytes 1 == (if byte bytes 0 == 0x02 then 0x12 else 0)) then Bad 1
    else if nat_lt (if byte bytes 0 == 0x00 then data_limit else 0) (field bytes 2 5) then Bad 2
    else if byte bytes 0 == 0x00 then read_good bytes
    else if byte bytes 0 == 0x02 then read_check bytes
    else Whole (bare_reply (byte bytes 0)) 6
