-- Range descriptors, and what may be wrong with them
use Rattle.std.specs.Prelude.{ℕ, zero, suc, ◌+◌, ◌-◌, ◌%◌, ◌/◌, ◌==◌, List, [], ◌∷◌, length, drop, Option, Some, None, not, nat_lt, ◌||◌, if◌then◌else◌}
use Rattle.cm_base.specs.Fields.{field}
use Rattle.lba_ranges.specs.declared.ranges.Range.{Range}
use Rattle.lba_ranges.specs.Denoted.{total, is_overlapping}
use Rattle.scsi_sense.specs.SenseCode.{SenseCode}
use Rattle.scsi_sense.specs.Codes.{parameter_list_length_error, invalid_field_in_parameter_list}

-- `n` range descriptors of 16 bytes: eight bytes of LBA, four of count, four that are not used
abbrev pub ranges_in : ℕ → List ℕ → List Range
ranges_in zero bytes = []
ranges_in (suc n) bytes = record { lba = field bytes 0 7; count = field bytes 8 11 } ∷ ranges_in n (drop 16 bytes)

-- the range descriptor length, which stands in the two bytes before the descriptors
abbrev pub ranges_length : ℕ → List ℕ → ℕ
ranges_length start bytes = field bytes (start - 2) (start - 1)

-- all ranges of a token's list, whose descriptors begin at `start`
abbrev pub ranges_from : ℕ → List ℕ → List Range
ranges_from start bytes = ranges_in (ranges_length start bytes / 16) (drop start bytes)

-- what is wrong with the lengths of a token's list
abbrev pub length_fault : ℕ → List ℕ → Option SenseCode
length_fault start bytes =
    if nat_lt (length bytes) start then Some parameter_list_length_error else
    if nat_lt (length bytes) (field bytes 0 1 + 2) then Some parameter_list_length_error else
    if not (ranges_length start bytes % 16 == 0) then Some invalid_field_in_parameter_list else
    if nat_lt (length bytes) (start + ranges_length start bytes) then Some parameter_list_length_error else
    if nat_lt 1024 (ranges_length start bytes) then Some invalid_field_in_parameter_list else
    None

-- two ranges share a block, or there are more than 1,048,576 blocks
abbrev pub range_fault : List Range → Option SenseCode
range_fault ranges = if is_overlapping ranges || nat_lt 1_048_576 (total ranges) then Some invalid_field_in_parameter_list else None
