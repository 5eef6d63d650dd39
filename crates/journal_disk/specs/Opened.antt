-- What a file is opened as
use Rattle.std.specs.Prelude.{ℕ, zero, suc, ◌+◌, List, [], ◌∷◌, ◌++◌, length, take, drop, Option, Some, None, Result, Ok, Err, Bool, false, ◌==◌, ◌&&◌, ◌||◌, not, nat_lt, if◌then◌else◌, bytes_eq}
use Rattle.byteorder.specs.Endian.{big_bytes, big_from}
use Rattle.cm_base.specs.Configuration.{Configuration}
use Rattle.cm_base.specs.declared.parsed.Parsed.{Parsed}
use Rattle.cm_base.specs.declared.parsed.Parsed.TheVariants.{Whole}
use Rattle.cm_frame.specs.Grammar.{header_bytes}
use Rattle.cm_history.specs.declared.act.Entry.{Entry}
use Rattle.cm_history.specs.Limits.{within_limits}
use Rattle.cm_history.specs.Legal.{may_ask}
use Rattle.recorder.specs.Reading.{read_entry}

-- a gate is open where it is this byte
abbrev pub open_gate : ℕ
open_gate = 0xa5

-- the text CMJOURN1
abbrev pub journal_text : List ℕ
journal_text = 0x43 ∷ 0x4d ∷ 0x4a ∷ 0x4f ∷ 0x55 ∷ 0x52 ∷ 0x4e ∷ 0x31 ∷ []

-- what stands between the first gate and the second: the text, the unit in two bytes, the header of the configuration
abbrev pub mark_bytes : Configuration → ℕ → List ℕ
mark_bytes config unit = journal_text ++ big_bytes 2 unit ++ header_bytes config

-- what stands before the second gate where the first is open
abbrev pub front_bytes : Configuration → ℕ → List ℕ
front_bytes config unit = open_gate ∷ mark_bytes config unit

abbrev pub begins_open : List ℕ → Bool
begins_open [] = false
begins_open (gate ∷ rest) = gate == open_gate

-- It is shorter than a new file, or as long and its first gate is not open: it is made new.
abbrev pub is_unmade : List ℕ → List ℕ → Bool
is_unmade front file = nat_lt (length file) (length front + 1) || ((length file == length front + 1) && not (begins_open file))

-- ---- records

-- the entry that all of the bytes spell
abbrev pub all_of : Parsed Entry → ℕ → Option Entry
all_of (Whole e used) size = if used == size then Some e else None
all_of _ size = None

abbrev pub entry_in : List ℕ → Option Entry
entry_in payload = all_of (read_entry payload) (length payload)

-- the entry may stand behind one of this stamp: it has the unit, is within limits, by an actor that may ask it, and its
-- stamp is greater
abbrev pub may_follow : Configuration → ℕ → ℕ → Entry → Bool
may_follow config unit last e =
    (e.unit == unit) && within_limits config unit e.act && may_ask unit e.actor e.act && nat_lt last e.stamp

abbrev pub allowed : (Entry → Bool) → Option Entry → Option Entry
allowed test None = None
allowed test (Some e) = if test e then Some e else None

-- the bytes of an entry, by the length before them
abbrev pub told_size : List ℕ → ℕ
told_size bytes = big_from 0 8 bytes

abbrev pub payload_in : List ℕ → List ℕ
payload_in bytes = take (told_size bytes) (drop 8 bytes)

-- the entry of a good record behind an open gate: the record has its closing gate, and the entry may stand there
abbrev pub good_entry : Configuration → ℕ → ℕ → List ℕ → Option Entry
good_entry config unit last bytes =
    if nat_lt (8 + told_size bytes) (length bytes) then allowed (may_follow config unit last) (entry_in (payload_in bytes)) else None

-- ---- the file

abbrev pub with_first : Entry → Result (List Entry) ℕ → Result (List Entry) ℕ
with_first e (Ok es) = Ok (e ∷ es)
with_first e (Err place) = Err place

-- the entry and those behind it, or a fault at a place
abbrev pub and_later : Option Entry → ℕ → (Entry → Result (List Entry) ℕ) → Result (List Entry) ℕ
and_later None place later = Err place
and_later (Some e) place later = with_first e (later e)

-- The entries up to the first gate that is not open, at most `n`, or the place of the first record that is not good. The
-- bytes begin with a gate, which stands at this place.
abbrev pub entries_from : Configuration → ℕ → ℕ → ℕ → ℕ → List ℕ → Result (List Entry) ℕ
entries_from config unit zero last place bytes = Ok []
entries_from config unit (suc n) last place [] = Ok []
entries_from config unit (suc n) last place (gate ∷ rest) =
    if gate == open_gate
    then and_later (good_entry config unit last rest) (place + 1)
    (λ e. entries_from config unit n e.stamp (place + 9 + told_size rest) (drop (8 + told_size rest) rest))
    else Ok []

abbrev pub opened_behind : Configuration → ℕ → List ℕ → List ℕ → Result (List Entry) ℕ
opened_behind config unit front file =
    if is_unmade front file then Ok []
    else if not (begins_open file) then Err 0
    else if not (bytes_eq (take (length front) file) front) then Err 1
    else entries_from config unit (length file) 0 (length front) (drop (length front) file)

-- the entries that a file is opened as, as a journal of this unit under this configuration; or the place at which it is bad
abbrev pub opened : Configuration → ℕ → List ℕ → Result (List Entry) ℕ
opened config unit file = opened_behind config unit (front_bytes config unit) file
