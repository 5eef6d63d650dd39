-- What is told of a token operation, as contracts see it
use Rattle.std.specs.Prelude.{◌≡◌, ◌≤◌, ℕ, ◌==◌, Bool, true, false, ◌||◌, Option, Some, None, is_some, IsTrue, IfSome}
use Rattle.scsi_sense.specs.SenseCode.{SenseCode}
use Rattle.copy_status.specs.declared.operation.OperationStatus.{OperationStatus}

-- whether it populates a token, COPY OPERATION STATUS, whether it runs, the sense of its error, and the blocks moved
pub record CopyStatus : Type 0 where
  pub populate : Bool
  pub status : ℕ
  pub running : Bool
  pub sense : Option SenseCode
  pub count : ℕ

-- COPY OPERATION STATUS
abbrev pub status_code : OperationStatus → ℕ
status_code OperationStatus.Completed = 0x01
status_code (OperationStatus.Failed sense) = 0x02
status_code OperationStatus.Foreground = 0x11
status_code OperationStatus.Background = 0x12
status_code OperationStatus.Terminated = 0x60

-- in progress, in foreground or in background
abbrev pub is_in_progress : OperationStatus → Bool
is_in_progress OperationStatus.Foreground = true
is_in_progress OperationStatus.Background = true
is_in_progress _ = false

-- the sense of an operation that was completed with errors
abbrev pub sense_of : OperationStatus → Option SenseCode
sense_of (OperationStatus.Failed sense) = Some sense
sense_of _ = None

-- what is told of an operation of this status that has moved so many blocks
abbrev pub told_status : Bool → OperationStatus → ℕ → CopyStatus
told_status populate status count = record {
  populate = populate;
  status = status_code status;
  running = is_in_progress status;
  sense = sense_of status;
  count = count;
}

-- the code is that of a status
abbrev pub is_code : ℕ → Bool
is_code code = (code == 0x01) || (code == 0x02) || (code == 0x11) || (code == 0x12) || (code == 0x60)

-- it may be told of an operation
pub record IsStatus (s : CopyStatus) : Type 0 where
  pub code : IsTrue (is_code s.status)
  pub running : s.running ≡ ((s.status == 0x11) || (s.status == 0x12))
  pub sense : is_some s.sense ≡ (s.status == 0x02)
  pub key : IfSome s.sense (λ sense. sense.key ≤ 15)
  pub count : s.count ≤ 1_048_576
