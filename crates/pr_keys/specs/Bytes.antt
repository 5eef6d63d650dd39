-- The bytes of PERSISTENT RESERVE OUT's parameter list, and of what PERSISTENT RESERVE IN tells (SPC-4)
use Rattle.std.specs.Prelude.{ℕ, ◌*◌, List, [], ◌∷◌, ◌++◌, flat_map, length, Option, Some, None, Result, Ok, Err, ◌==◌, if◌then◌else◌}
use Rattle.byteorder.specs.Endian.{big_bytes}
use Rattle.cm_base.specs.Fields.{field, zeros}
use Rattle.cm_base.specs.declared.reservations.Holder.{Holder}
use Rattle.scsi_sense.specs.SenseCode.{SenseCode}
use Rattle.scsi_sense.specs.Codes.{parameter_list_length_error}
use Rattle.pr_keys.specs.declared.lists.OutList.{OutList}

-- a list has 24 bytes: the two keys, and what is not used
abbrev pub out_list_read : List ℕ → Result OutList SenseCode
out_list_read bytes = if length bytes == 24 then Ok (record { key = field bytes 0 7; action_key = field bytes 8 15 }) else Err parameter_list_length_error

abbrev pub out_list_written : OutList → List ℕ
out_list_written list = big_bytes 8 list.key ++ big_bytes 8 list.action_key ++ zeros 8

-- READ KEYS: the generation, the bytes of the keys, the keys
abbrev pub keys_bytes : ℕ → List ℕ → List ℕ
keys_bytes generation keys = big_bytes 4 generation ++ big_bytes 4 (8 * length keys) ++ flat_map (big_bytes 8) keys

-- READ RESERVATION: the generation, and 16 bytes of a reservation: its key, scope 0 and its type
abbrev pub holder_bytes : ℕ → Option Holder → List ℕ
holder_bytes generation None = big_bytes 4 generation ++ big_bytes 4 0
holder_bytes generation (Some holder) =
    big_bytes 4 generation ++ big_bytes 4 16 ++ big_bytes 8 holder.key ++ zeros 5 ++ holder.kind ∷ zeros 2
