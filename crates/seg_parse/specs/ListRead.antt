-- What an EXTENDED COPY asks for, or why its list is refused
use Rattle.std.specs.Prelude.{ℕ, ◌+◌, ◌/◌, ◌%◌, ◌==◌, List, length, drop, slice_range, Option, Some, None, Result, Ok, Err, not, nat_lt, if◌then◌else◌}
use Rattle.cm_base.specs.Fields.{byte, field, bits}
use Rattle.scsi_sense.specs.SenseCode.{SenseCode}
use Rattle.scsi_sense.specs.Codes.{parameter_list_length_error, invalid_field_in_parameter_list, too_many_target_descriptors, too_many_segment_descriptors, inline_data_length_exceeded}
use Rattle.scsi_sense.specs.Faults.{unless}
use Rattle.seg_parse.specs.declared.list.Cscd.{Cscd}
use Rattle.seg_parse.specs.declared.list.Segment.{Segment}
use Rattle.seg_parse.specs.declared.list.CopyList.{CopyList}
use Rattle.seg_parse.specs.Descriptors.{cscds_read, segments_read}

-- LIST ID USAGE
abbrev pub usage : List ℕ → ℕ
usage bytes = bits bytes 1 4 3

-- bytes of the CSCD descriptors
abbrev pub cscd_length : List ℕ → ℕ
cscd_length bytes = field bytes 2 3

-- bytes of the segment descriptors
abbrev pub segment_length : List ℕ → ℕ
segment_length bytes = field bytes 8 11

-- what is wrong with the head of the list
abbrev pub head_fault : List ℕ → Option SenseCode
head_fault bytes =
    if nat_lt (length bytes) 16 then Some parameter_list_length_error else
    if usage bytes == 1 then Some invalid_field_in_parameter_list else
    if not (field bytes 12 15 == 0) then Some inline_data_length_exceeded else
    if not (cscd_length bytes % 32 == 0) then Some invalid_field_in_parameter_list else
    if nat_lt 512 (cscd_length bytes) then Some too_many_target_descriptors else
    if nat_lt 1792 (segment_length bytes) then Some too_many_segment_descriptors else
    if nat_lt (length bytes) (16 + cscd_length bytes + segment_length bytes) then Some parameter_list_length_error else
    None

-- the CSCD descriptors
abbrev pub cscds_of : List ℕ → Result (List Cscd) SenseCode
cscds_of bytes = cscds_read (cscd_length bytes / 32) (drop 16 bytes)

-- the segment descriptors, which are 64 at most
abbrev pub segments_of : List ℕ → Result (List Segment) SenseCode
segments_of bytes =
    segments_read (cscd_length bytes / 32) 64
    (slice_range bytes (16 + cscd_length bytes) (16 + cscd_length bytes + segment_length bytes))

-- the CSCDs are judged before the segments
abbrev pub copy_list : List ℕ → Result (List Cscd) SenseCode → Result (List Segment) SenseCode → Result CopyList SenseCode
copy_list bytes (Err sense) segments = Err sense
copy_list bytes (Ok units) (Err sense) = Err sense
copy_list bytes (Ok units) (Ok segments) =
    Ok (record { id = byte bytes 0; usage = usage bytes; units = units; segments = segments })

-- the parameter list of an EXTENDED COPY(LID1), whose head is judged first
abbrev pub lid1_read : List ℕ → Result CopyList SenseCode
lid1_read bytes = unless (head_fault bytes) (copy_list bytes (cscds_of bytes) (segments_of bytes))
