-- Which program a request is, and what it does next
use Rattle.std.specs.Prelude.{ℕ, ◌*◌, ◌==◌, List, take, length, fold, Option, Some, None, Result, Ok, Err, if◌then◌else◌}
use Rattle.cm_base.specs.Configuration.{Configuration}
use Rattle.cm_base.specs.declared.config.UnitConfig.{UnitConfig}
use Rattle.cm_base.specs.Units.{unit_of, is_configured}
use Rattle.scsi_sense.specs.SenseCode.{SenseCode}
use Rattle.scsi_sense.specs.SenseBytes.{sense_bytes}
use Rattle.scsi_sense.specs.Codes.{no_additional_sense, logical_unit_not_supported, invalid_field_in_cdb, parameter_list_length_error}
use Rattle.scsi_cdb.specs.declared.cdb.Cdb.{Cdb}
use Rattle.scsi_cdb.specs.Decoded.{decoded}
use Rattle.cm_frame.specs.declared.frame.Request.{Request}
use Rattle.block_params.specs.ListsRead.{unmap_read, populate_read, write_token_read}
use Rattle.seg_parse.specs.ListRead.{lid1_read}
use Rattle.pr_keys.specs.Bytes.{out_list_read}
use Rattle.scsi_inquiry.specs.UnitData.{capacity10, capacity16, report_luns, copy_parameters}
use Rattle.cm_history.specs.declared.act.Act.{Act}
use Rattle.cmd_program.specs.declared.step.Outcome.{Outcome}
use Rattle.cmd_program.specs.declared.step.Step.{Step}
use Rattle.cmd_program.specs.Program.{Program, good, done, refused, ask_then, next, moved}
use Rattle.cmd_program.specs.SingleActs.{inquiry, blocks_in, unmap, populate, act_alone, told_read, told_map, told_report, told_token, told_copy, reserve_in, reserve_out}
use Rattle.cmd_program.specs.TokenWrite.{write_using_token}
use Rattle.cmd_program.specs.ExtendedCopy.{extended_copy}

-- the data that went out has as many bytes as it should
abbrev pub length_is : List ℕ → ℕ → SenseCode → Option SenseCode
length_is out wanted sense = if length out == wanted then None else Some sense

-- what is wrong with the data that went out
abbrev pub out_fault : UnitConfig → List ℕ → Cdb → Option SenseCode
out_fault unit out (Cdb.Write lba count) = length_is out (count * unit.block_length) invalid_field_in_cdb
out_fault unit out (Cdb.Unmap length) = length_is out length parameter_list_length_error
out_fault unit out (Cdb.ExtendedCopy length) = length_is out length parameter_list_length_error
out_fault unit out (Cdb.PopulateToken id length) = length_is out length parameter_list_length_error
out_fault unit out (Cdb.WriteUsingToken id length) = length_is out length parameter_list_length_error
out_fault unit out (Cdb.PersistentOut action scope kind length) = length_is out length parameter_list_length_error
out_fault unit out _ = length_is out 0 invalid_field_in_cdb

-- the program of each command; `allocation` is the allocation length
abbrev pub program_of : Configuration → ℕ → List ℕ → Cdb → Program
program_of config unit out Cdb.TestUnitReady = done
program_of config unit out (Cdb.RequestSense allocation) = good (take allocation (sense_bytes no_additional_sense))
program_of config unit out (Cdb.Inquiry evpd page allocation) = inquiry unit evpd page allocation
program_of config unit out (Cdb.Read lba count) = ask_then unit (Act.Read lba count) told_read
program_of config unit out (Cdb.Write lba count) = act_alone unit (Act.Write lba (blocks_in (unit_of config unit).block_length out))
program_of config unit out (Cdb.Unmap length) = unmap unit (unmap_read out)
program_of config unit out Cdb.ReadCapacity10 = good (capacity10 config unit)
program_of config unit out (Cdb.ReadCapacity16 allocation) = good (take allocation (capacity16 config unit))
program_of config unit out (Cdb.GetLbaStatus lba allocation) = ask_then unit (Act.MapStatus lba) (told_map allocation)
program_of config unit out (Cdb.ReportLuns allocation) = good (take allocation (report_luns config))
program_of config unit out (Cdb.ExtendedCopy length) = extended_copy config unit length (lid1_read out)
program_of config unit out (Cdb.PopulateToken id length) = populate unit id (populate_read out)
program_of config unit out (Cdb.WriteUsingToken id length) = write_using_token config unit id (write_token_read out)
program_of config unit out (Cdb.CopyAbort id) = act_alone unit (Act.Abort id)
program_of config unit out (Cdb.CopyStatus1 id allocation) = ask_then unit (Act.Recall id) (told_copy allocation)
program_of config unit out (Cdb.CopyParameters allocation) = good (take allocation copy_parameters)
program_of config unit out (Cdb.CopyStatus4 id allocation) = ask_then unit (Act.Report id) (told_report allocation)
program_of config unit out (Cdb.TokenInformation id allocation) = ask_then unit (Act.Report id) (told_token config unit allocation)
program_of config unit out (Cdb.PersistentIn action allocation) = reserve_in unit action allocation
program_of config unit out (Cdb.PersistentOut action scope kind length) = reserve_out unit action scope kind (out_list_read out)

-- a command whose data has the right length
abbrev pub judged_out : Configuration → Request → Cdb → Option SenseCode → Program
judged_out config r cdb (Some sense) = refused sense
judged_out config r cdb None = program_of config r.unit r.out cdb

-- a CDB as it was decoded
abbrev pub judged_cdb : Configuration → Request → Result Cdb SenseCode → Program
judged_cdb config r (Err sense) = refused sense
judged_cdb config r (Ok cdb) = judged_out config r cdb (out_fault (unit_of config r.unit) r.out cdb)

-- the program of a request: the first refusal is its reply
abbrev pub program : Configuration → Request → Program
program config r = if is_configured config r.unit then judged_cdb config r (decoded r.cdb) else refused logical_unit_not_supported

-- the program after the outcomes so far, the oldest first
abbrev pub program_after : Configuration → Request → List Outcome → Program
program_after config r outcomes = fold moved (program config r) outcomes

-- what the command of a nexus does next; no command asks which nexus it is
abbrev pub step : Configuration → ℕ → Request → List Outcome → Step
step config nexus r outcomes = next (program_after config r outcomes)
