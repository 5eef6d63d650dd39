-- What a host is told of an answer, in bytes
use Rattle.std.specs.Prelude.{ℕ, List, [], ◌∷◌, ◌++◌, Bool, if◌then◌else◌}
use Rattle.std.specs.Option.{option_map}
use Rattle.byteorder.specs.Endian.{big_bytes}
use Rattle.cm_base.specs.Configuration.{Configuration}
use Rattle.cm_base.specs.Fields.{zeros, counted}
use Rattle.copy_status.specs.declared.operation.OperationStatus.{OperationStatus}
use Rattle.copy_status.specs.CopyStatus.{CopyStatus, told_status}
use Rattle.copy_status.specs.StatusBytes.{information_bytes}
use Rattle.rod_token.specs.TokenText.{token_text}
use Rattle.cm_history.specs.declared.act.CopyState.{CopyState}
use Rattle.lba_ranges.specs.declared.status.MapRun.{MapRun}
use Rattle.cm_history.specs.declared.answer.OpReport.{OpReport}
use Rattle.cm_history.specs.declared.answer.OpState.{OpState}

-- the status is 1 where the blocks are unmapped
abbrev pub run_bytes : MapRun → List ℕ
run_bytes r = big_bytes 8 r.lba ++ big_bytes 4 r.count ++ (if r.mapped then 0 else 1) ∷ zeros 3

-- LBA status descriptors (SBC-3), one after another
abbrev pub runs_bytes : List MapRun → List ℕ
runs_bytes [] = []
runs_bytes (r ∷ rs) = run_bytes r ++ runs_bytes rs

-- GET LBA STATUS
abbrev pub map_bytes : List MapRun → List ℕ
map_bytes runs = counted (zeros 4 ++ runs_bytes runs)

-- the copy operation status
abbrev pub operation_status : Bool → OpState → OperationStatus
operation_status background OpState.Running = if background then OperationStatus.Background else OperationStatus.Foreground
operation_status background OpState.Done = OperationStatus.Completed
operation_status background (OpState.Failed sense) = OperationStatus.Failed sense
operation_status background OpState.Terminated = OperationStatus.Terminated

-- what a host is told of the report of a token operation
abbrev pub status_of : OpReport → CopyStatus
status_of r = told_status r.populate (operation_status r.background r.state) r.count

-- RECEIVE ROD TOKEN INFORMATION, with the token that a POPULATE TOKEN made at the unit
abbrev pub report_token_bytes : Configuration → ℕ → OpReport → List ℕ
report_token_bytes config unit r =
    information_bytes (status_of r) (option_map (λ serial. token_text config unit serial r.count) r.serial)

-- COPY COMMAND STATUS (SPC-4): in progress, completed without errors, completed with errors
abbrev pub copy_code : CopyState → ℕ
copy_code CopyState.Running = 0x00
copy_code CopyState.Done = 0x01
copy_code CopyState.Failed = 0x02
copy_code CopyState.Terminated = 0x02
