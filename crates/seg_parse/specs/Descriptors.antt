-- CSCD and segment descriptors, one by one
use Rattle.std.specs.Prelude.{ℕ, zero, suc, ◌==◌, List, [], ◌∷◌, length, drop, slice_range, Option, Some, None, Result, Ok, Err, Bool, not, ◌&&◌, ◌||◌, nat_lt, nat_le, if◌then◌else◌}
use Rattle.cm_base.specs.Fields.{byte, field, bits}
use Rattle.scsi_sense.specs.SenseCode.{SenseCode}
use Rattle.scsi_sense.specs.Codes.{parameter_list_length_error, invalid_field_in_parameter_list, unsupported_target_descriptor_type, unsupported_segment_descriptor_type}
use Rattle.scsi_sense.specs.Faults.{unless}
use Rattle.seg_parse.specs.declared.list.Cscd.{Cscd}
use Rattle.seg_parse.specs.declared.list.Segment.{Segment}

-- the item, before the items of the rest
abbrev pub followed : {A : Type 0} → A → Result (List A) SenseCode → Result (List A) SenseCode
followed item (Ok items) = Ok (item ∷ items)
followed item (Err sense) = Err sense

-- code set 1, association 0, designator type 3 and eight bytes of name
abbrev pub is_named : List ℕ → Bool
is_named d = (bits d 4 3 0 == 1) && (bits d 5 5 4 == 0) && (bits d 5 3 0 == 3) && (byte d 7 == 8)

-- an Identification descriptor CSCD descriptor (SPC-4), of 32 bytes
abbrev pub cscd : List ℕ → Cscd
cscd d = record {
  device = bits d 1 4 0;
  name = if is_named d then Some (slice_range d 8 16) else None;
  block_length = field d 29 31;
}

-- `n` CSCD descriptors of 32 bytes
abbrev pub cscds_read : ℕ → List ℕ → Result (List Cscd) SenseCode
cscds_read zero bytes = Ok []
cscds_read (suc n) bytes = if byte bytes 0 == 0xe4 then followed (cscd bytes) (cscds_read n (drop 32 bytes)) else Err unsupported_target_descriptor_type

-- a block device to block device segment descriptor (SPC-4), of 28 bytes
abbrev pub segment : List ℕ → Segment
segment d = record {
  source = field d 4 5;
  destination = field d 6 7;
  count = field d 10 11;
  from = field d 12 19;
  to = field d 20 27;
}

-- what is wrong with the descriptor at the head of the bytes, where there are so many CSCDs
abbrev pub segment_fault : ℕ → List ℕ → Option SenseCode
segment_fault cscds bytes =
    if not (byte bytes 0 == 0x02) then Some unsupported_segment_descriptor_type else
    if nat_lt (length bytes) 28 then Some parameter_list_length_error else
    if not (field bytes 2 3 == 0x0018) then Some invalid_field_in_parameter_list else
    if nat_le cscds (field bytes 4 5) || nat_le cscds (field bytes 6 7) then Some invalid_field_in_parameter_list else
    None

-- the segment descriptors of 28 bytes, at most `n`, that the bytes are
abbrev pub segments_read : ℕ → ℕ → List ℕ → Result (List Segment) SenseCode
segments_read cscds n [] = Ok []
segments_read cscds zero (b ∷ bs) = Ok []
segments_read cscds (suc n) (b ∷ bs) =
    unless (segment_fault cscds (b ∷ bs)) (followed (segment (b ∷ bs)) (segments_read cscds n (drop 28 (b ∷ bs))))
