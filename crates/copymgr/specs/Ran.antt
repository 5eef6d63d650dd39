-- What the program did by its words
use Rattle.std.specs.Prelude.{◌≡◌, ℕ, List, [], Option, Result}
use Rattle.cmd_program.specs.Judging.{step}
use Rattle.trace_replay.specs.declared.summary.Summary.{Summary}
use Rattle.trace_replay.specs.declared.fault.ReplayFault.{ReplayFault}
use Rattle.trace_replay.specs.Replayed.{Replayed, IsCounted}
use Rattle.trace_check.specs.declared.checker.CheckEnd.{CheckEnd}
use Rattle.trace_check.specs.Checked.{Checked, IsCheckCounted}
use Rattle.odx_host.specs.declared.fault.Copied.{Copied}
use Rattle.odx_host.specs.declared.stream_port.StreamFault.{StreamFault}
use Rattle.odx_host.specs.CopiedOver.{CopiedOver, AreCounted}
use Rattle.copymgr.specs.declared.status.Status.{Status}
use Rattle.copymgr.specs.Statuses.{status_of, check_status, copy_status}

-- The trace was replayed, and the status is that of the replay's answer. First what the source has left and what the
-- sink took, each before and after; then their counts of faults, each before and after.
pub record HasReplayed (left rest taken given : Option (List ℕ)) (reads reads_after writes writes_after : ℕ) (status : Status) : Type 0 where
  pub answer : Result Summary ReplayFault
  pub is : status ≡ status_of answer
  pub replayed : Replayed step left rest taken given answer
  pub counted : IsCounted reads reads_after writes writes_after answer

-- The trace was checked, and the status is that of the answer. What stands before and after is as for a replay.
pub record HasChecked (left rest taken given : Option (List ℕ)) (reads reads_after writes writes_after : ℕ) (status : Status) : Type 0 where
  pub answer : Result CheckEnd ReplayFault
  pub is : status ≡ check_status answer
  pub checked : Checked step left rest taken given answer
  pub counted : IsCheckCounted reads reads_after writes writes_after answer

-- The blocks of a job were copied, and the status is that of the answer. What stands before and after is as for a replay;
-- `waiting` was pulled and not used.
pub record HasCopied (left rest taken given : Option (List ℕ)) (reads reads_after writes writes_after : ℕ) (status : Status) : Type 0 where
  pub answer : Result Copied StreamFault
  pub is : status ≡ copy_status answer
  pub waiting : List ℕ
  pub copied : CopiedOver
      (record { left = left; input = []; taken = taken; read_faults = reads; write_faults = writes })
      (record { left = rest; input = waiting; taken = given; read_faults = reads_after; write_faults = writes_after })
      answer
  pub counted : AreCounted answer reads reads_after writes writes_after
