-- What pulls and pushes of a check leave
use Rattle.std.specs.Prelude.{◌≡◌, ℕ, ◌<◌, ◌≤◌, List, length, Option, Result, Ok, Err, ◌⊎◌}
use Rattle.std.specs.Io.KnownBytes.{Consumes, Appends}
use Rattle.cm_base.specs.Fields.{field}
use Rattle.cm_base.specs.Outside.{Faulted, IsBeginning}
use Rattle.trace_replay.specs.declared.fault.ReplayFault.{ReplayFault}
use Rattle.trace_replay.specs.declared.fault.ReplayFault.TheVariants.{ReadFault, WriteFault, OutOfMemory}
use Rattle.trace_check.specs.declared.checker.CheckEnd.{CheckEnd}
use Rattle.trace_check.specs.Verdict.{trace_limit}
use Rattle.trace_check.specs.Checked.{yes_line}

-- some bytes were pulled, and then a pull failed or memory was wanted
pub record HasFailed (left rest : Option (List ℕ)) (e : ReplayFault) : Type 0 where
  pub pulled : List ℕ
  pub consumed : Consumes left rest pulled
  pub fault : (e ≡ ReadFault) ⊎ (e ≡ OutOfMemory)

-- a failed read is answered only where the source counted one
abbrev pub IsFillCounted : {X : Type 0} → ℕ → ℕ → Result X ReplayFault → Type 0
IsFillCounted reads reads_after (Err ReadFault) = Faulted reads reads_after
IsFillCounted reads reads_after _ = reads_after ≡ reads

-- the length of the trace is there, and is too great
pub record IsTooLong (bytes : List ℕ) : Type 0 where
  pub there : 8 ≤ length bytes
  pub great : trace_limit < field bytes 0 7

-- a push failed, and a beginning of the Yes was told
pub record HasNotTold (taken given : Option (List ℕ)) (end : CheckEnd) (e : ReplayFault) : Type 0 where
  pub yes : end ≡ CheckEnd.Yes
  pub fault : e ≡ WriteFault
  pub pushed : List ℕ
  pub output : Appends taken given pushed
  pub begins : IsBeginning pushed yes_line

-- a failed write is answered only where the sink counted one
abbrev pub IsPushCounted : {X : Type 0} → ℕ → ℕ → Result X ReplayFault → Type 0
IsPushCounted writes writes_after (Err WriteFault) = Faulted writes writes_after
IsPushCounted writes writes_after _ = writes_after ≡ writes
