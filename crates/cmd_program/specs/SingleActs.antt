-- Commands that ask for one act, or for none
use Rattle.std.specs.Prelude.{ℕ, ◌/◌, ◌==◌, List, take, length, Option, Some, None, Result, Ok, Err, Bool, true, false, if◌then◌else◌}
use Rattle.cm_base.specs.Configuration.{Configuration}
use Rattle.lba_ranges.specs.HeldBlocks.{HeldBlocks, cut_into, blocks_bytes}
use Rattle.lba_ranges.specs.declared.ranges.Range.{Range}
use Rattle.scsi_sense.specs.SenseCode.{SenseCode}
use Rattle.scsi_sense.specs.Codes.{invalid_field_in_cdb}
use Rattle.block_params.specs.declared.lists.PopulateList.{PopulateList}
use Rattle.scsi_inquiry.specs.UnitData.{standard, vpd}
use Rattle.cm_history.specs.declared.act.Act.{Act}
use Rattle.cm_history.specs.declared.answer.Answer.{Answer}
use Rattle.pr_keys.specs.declared.lists.OutList.{OutList}
use Rattle.pr_keys.specs.Bytes.{keys_bytes, holder_bytes}
use Rattle.cmd_program.specs.Program.{Program, good, done, refused, refused_as, conflict, never, unless_refused, with_blocks, with_report, ask_then}
use Rattle.copy_status.specs.StatusBytes.{status4_bytes, status1_bytes}
use Rattle.cmd_program.specs.AnswerBytes.{map_bytes, status_of, report_token_bytes, copy_code}

-- the blocks of data that came with a WRITE
abbrev pub blocks_in : ℕ → List ℕ → HeldBlocks
blocks_in size bytes = record { block_length = size; items = cut_into size (length bytes / size) bytes }

-- ---- what is told of each answer; `allocation` is the allocation length

-- READ: the bytes of the blocks
abbrev pub told_read : Answer → Program
told_read answer = with_blocks (λ list. good (blocks_bytes list)) refused_as answer

-- GET LBA STATUS: the runs of mapped and unmapped blocks
abbrev pub told_map : ℕ → Answer → Program
told_map allocation (Answer.Status runs) = good (take allocation (map_bytes runs))
told_map allocation (Answer.Refused sense) = refused sense
told_map allocation Answer.Conflict = conflict
told_map allocation _ = never

-- RECEIVE COPY STATUS(LID4): the report of the operation
abbrev pub told_report : ℕ → Answer → Program
told_report allocation answer = with_report (λ report. good (take allocation (status4_bytes (status_of report)))) answer

-- RECEIVE ROD TOKEN INFORMATION: the report of the operation, with its token
abbrev pub told_token : Configuration → ℕ → ℕ → Answer → Program
told_token config unit allocation answer = with_report (λ report. good (take allocation (report_token_bytes config unit report))) answer

-- RECEIVE COPY STATUS(LID1): how far the copy has come
abbrev pub told_copy : ℕ → Answer → Program
told_copy allocation (Answer.Copy result) = good (take allocation (status1_bytes (copy_code result.state) result.segments result.bytes))
told_copy allocation (Answer.Refused sense) = refused sense
told_copy allocation _ = never

-- PERSISTENT RESERVE IN, READ KEYS: the keys of the registered nexuses
abbrev pub told_keys : ℕ → Answer → Program
told_keys allocation (Answer.Keys generation keys) = good (take allocation (keys_bytes generation keys))
told_keys allocation _ = never

-- PERSISTENT RESERVE IN, READ RESERVATION: the reservation
abbrev pub told_holder : ℕ → Answer → Program
told_holder allocation (Answer.Holder generation holder) = good (take allocation (holder_bytes generation holder))
told_holder allocation _ = never

-- ---- the commands

-- one act, and GOOD with no data
abbrev pub act_alone : ℕ → Act → Program
act_alone unit act = ask_then unit act (unless_refused done)

-- a page, if there is one
abbrev pub page_told : ℕ → Option (List ℕ) → Program
page_told allocation None = refused invalid_field_in_cdb
page_told allocation (Some page) = good (take allocation page)

-- INQUIRY: with EVPD a vital product data page, else the standard data, for which PAGE CODE has to be 0
abbrev pub inquiry : ℕ → Bool → ℕ → ℕ → Program
inquiry unit true page allocation = page_told allocation (vpd unit page)
inquiry unit false page allocation = if page == 0 then good (take allocation standard) else refused invalid_field_in_cdb

-- UNMAP, as its parameter list was read
abbrev pub unmap : ℕ → Result (List Range) SenseCode → Program
unmap unit (Err sense) = refused sense
unmap unit (Ok ranges) = act_alone unit (Act.Unmap ranges)

-- POPULATE TOKEN, as its parameter list was read
abbrev pub populate : ℕ → ℕ → Result PopulateList SenseCode → Program
populate unit id (Err sense) = refused sense
populate unit id (Ok list) = act_alone unit (Act.Populate id list.timeout list.ranges)

-- PERSISTENT RESERVE IN, by its service action
abbrev pub reserve_in : ℕ → ℕ → ℕ → Program
reserve_in unit action allocation =
    if action == 0 then ask_then unit Act.PrKeys (told_keys allocation) else ask_then unit Act.PrHolder (told_holder allocation)

-- PERSISTENT RESERVE OUT, by its service action, scope and type, and as its parameter list was read
abbrev pub reserve_out : ℕ → ℕ → ℕ → ℕ → Result OutList SenseCode → Program
reserve_out unit action scope kind (Err sense) = refused sense
reserve_out unit action scope kind (Ok list) = act_alone unit (Act.PrOut action scope kind list.key list.action_key)
