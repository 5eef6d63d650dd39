-- The senses by which commands and acts are refused, by the names of SPC-4 (Additional sense codes)
use Rattle.std.specs.Prelude.{ℕ}
use Rattle.scsi_sense.specs.SenseCode.{SenseCode}

-- key 5h, ILLEGAL REQUEST
abbrev pub illegal_request : ℕ → ℕ → SenseCode
illegal_request asc ascq = record { key = 0x05; asc = asc; ascq = ascq }

-- key Ah, COPY ABORTED
abbrev pub aborted_by : ℕ → ℕ → SenseCode
aborted_by asc ascq = record { key = 0x0a; asc = asc; ascq = ascq }

-- nothing is to be told
abbrev pub no_additional_sense : SenseCode
no_additional_sense = record { key = 0x00; asc = 0x00; ascq = 0x00 }

-- ---- what is wrong with a request

-- a parameter list has too few bytes
abbrev pub parameter_list_length_error : SenseCode
parameter_list_length_error = illegal_request 0x1a 0x00

-- the operation code or the service action is not known
abbrev pub invalid_operation_code : SenseCode
invalid_operation_code = illegal_request 0x20 0x00

-- a field of the CDB; also where the unit keeps no operation of the list identifier
abbrev pub invalid_field_in_cdb : SenseCode
invalid_field_in_cdb = illegal_request 0x24 0x00

-- the addressed unit is not configured
abbrev pub logical_unit_not_supported : SenseCode
logical_unit_not_supported = illegal_request 0x25 0x00

-- a field of the parameter list
abbrev pub invalid_field_in_parameter_list : SenseCode
invalid_field_in_parameter_list = illegal_request 0x26 0x00

-- more CSCD descriptors than 16
abbrev pub too_many_target_descriptors : SenseCode
too_many_target_descriptors = illegal_request 0x26 0x06

-- a CSCD descriptor of a type that is not known
abbrev pub unsupported_target_descriptor_type : SenseCode
unsupported_target_descriptor_type = illegal_request 0x26 0x07

-- more segment descriptors than 64
abbrev pub too_many_segment_descriptors : SenseCode
too_many_segment_descriptors = illegal_request 0x26 0x08

-- a segment descriptor of a type that is not known
abbrev pub unsupported_segment_descriptor_type : SenseCode
unsupported_segment_descriptor_type = illegal_request 0x26 0x09

-- inline data is not taken
abbrev pub inline_data_length_exceeded : SenseCode
inline_data_length_exceeded = illegal_request 0x26 0x0b

-- ---- why a unit refuses

-- the blocks do not all lie in the unit
abbrev pub lba_out_of_range : SenseCode
lba_out_of_range = illegal_request 0x21 0x00

-- more blocks would be mapped than the quota
abbrev pub space_allocation_failed : SenseCode
space_allocation_failed = record { key = 0x07; asc = 0x27; ascq = 0x07 }

-- an operation of the same key runs
abbrev pub operation_in_progress : SenseCode
operation_in_progress = illegal_request 0x00 0x16

-- there are too many serials, or too many operations run
abbrev pub insufficient_resources : SenseCode
insufficient_resources = illegal_request 0x55 0x03

-- ---- what is wrong with a token

-- its type is none of this copy manager's
abbrev pub unsupported_token_type : SenseCode
unsupported_token_type = illegal_request 0x23 0x01

-- it may not be used at that unit
abbrev pub remote_token_usage_not_supported : SenseCode
remote_token_usage_not_supported = illegal_request 0x23 0x02

-- no unit made a token of this serial
abbrev pub token_unknown : SenseCode
token_unknown = illegal_request 0x23 0x04

-- the text is not that of the token
abbrev pub token_corrupt : SenseCode
token_corrupt = illegal_request 0x23 0x05

-- its time is over
abbrev pub token_expired : SenseCode
token_expired = illegal_request 0x23 0x07

-- it made room for another
abbrev pub token_cancelled : SenseCode
token_cancelled = illegal_request 0x23 0x08

-- a host deleted it
abbrev pub token_deleted : SenseCode
token_deleted = illegal_request 0x23 0x09

-- its length field is not that of 512 bytes
abbrev pub invalid_token_length : SenseCode
invalid_token_length = illegal_request 0x23 0x0a

-- ---- why a copy stops

-- it stopped where it should have gone on
abbrev pub copy_aborted : SenseCode
copy_aborted = aborted_by 0x00 0x00

-- a CSCD is no unit of this copy manager
abbrev pub copy_target_device_not_reachable : SenseCode
copy_target_device_not_reachable = aborted_by 0x0d 0x02

-- a CSCD is not of the type or the block length of the unit
abbrev pub incorrect_copy_target_device_type : SenseCode
incorrect_copy_target_device_type = aborted_by 0x0d 0x03

-- a segment's blocks do not all lie in the unit
abbrev pub copy_lba_out_of_range : SenseCode
copy_lba_out_of_range = aborted_by 0x21 0x00
