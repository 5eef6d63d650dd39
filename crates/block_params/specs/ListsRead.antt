-- What each list asks for, or why it is refused
use Rattle.std.specs.Prelude.{ℕ, ◌-◌, ◌/◌, ◌==◌, List, [], length, drop, min, slice_range, Option, Some, None, Result, Ok, Err, Bool, not, ◌&&◌, nat_lt, if◌then◌else◌}
use Rattle.cm_base.specs.Fields.{field, bit}
use Rattle.lba_ranges.specs.declared.ranges.Range.{Range}
use Rattle.scsi_sense.specs.SenseCode.{SenseCode}
use Rattle.scsi_sense.specs.Codes.{parameter_list_length_error, invalid_field_in_parameter_list}
use Rattle.scsi_sense.specs.Faults.{unless, or_else}
use Rattle.block_params.specs.declared.lists.PopulateList.{PopulateList}
use Rattle.block_params.specs.declared.lists.WriteList.{WriteList}
use Rattle.block_params.specs.RangesRead.{ranges_in, ranges_from, length_fault, range_fault}

-- ---- UNMAP

-- the whole descriptors that are there; what is left over is ignored
abbrev pub unmap_count : List ℕ → ℕ
unmap_count bytes = min (field bytes 2 3) (length bytes - 8) / 16

-- UNMAP parameter list (SBC-3); no bytes at all are no ranges
abbrev pub unmap_read : List ℕ → Result (List Range) SenseCode
unmap_read bytes =
    if length bytes == 0 then Ok [] else
    if nat_lt (length bytes) 8 then Err parameter_list_length_error else
    if nat_lt 64 (unmap_count bytes) then Err invalid_field_in_parameter_list else
    Ok (ranges_in (unmap_count bytes) (drop 8 bytes))

-- ---- POPULATE TOKEN

-- the type is asked for by RTV, bit 1 of byte 2
abbrev pub is_bad_type : List ℕ → Bool
is_bad_type bytes = bit bytes 2 1 && not (field bytes 8 11 == 0x0080_0000) && not (field bytes 8 11 == 0x0080_ffff)

-- what is wrong with the timeout or the type
abbrev pub populate_fault : List ℕ → Option SenseCode
populate_fault bytes = if nat_lt 3600 (field bytes 4 7) then Some invalid_field_in_parameter_list else if is_bad_type bytes then Some invalid_field_in_parameter_list else None

-- 0 asks for the usual timeout
abbrev pub timeout_of : ℕ → ℕ
timeout_of asked = if asked == 0 then 300 else asked

-- POPULATE TOKEN parameter list (SBC-3): the lengths are judged first, then timeout and type, then the ranges
abbrev pub populate_read : List ℕ → Result PopulateList SenseCode
populate_read bytes =
    unless (or_else (length_fault 16 bytes) (or_else (populate_fault bytes) (range_fault (ranges_from 16 bytes))))
    (Ok (record { timeout = timeout_of (field bytes 4 7); ranges = ranges_from 16 bytes }))

-- ---- WRITE USING TOKEN

-- WRITE USING TOKEN parameter list (SBC-3): the lengths are judged before the ranges
abbrev pub write_token_read : List ℕ → Result WriteList SenseCode
write_token_read bytes =
    unless (or_else (length_fault 536 bytes) (range_fault (ranges_from 536 bytes)))
    (Ok (record {
      immed = bit bytes 2 0;
      delete = bit bytes 2 1;
      offset = field bytes 8 15;
      token = slice_range bytes 16 528;
      ranges = ranges_from 536 bytes;
    }))
