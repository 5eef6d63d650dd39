-- What the program did where a generated trace was asked for
use Rattle.std.specs.Prelude.{◌≡◌, ℕ, List, [], Option, Result, Ok, Err}
use Rattle.std.specs.Io.KnownBytes.{Appends}
use Rattle.cm_base.specs.Outside.{IsBeginning}
use Rattle.trace_replay.specs.declared.summary.Summary.{Summary}
use Rattle.trace_replay.specs.declared.fault.ReplayFault.{ReplayFault}
use Rattle.trace_replay.specs.ReplayState.{Shortage}
use Rattle.copymgr.specs.declared.status.Status.{Status}
use Rattle.copymgr.specs.Told.{summary_text}
use Rattle.copymgr.specs.Generating.{EndedDone, EndedBad, IsWriteCounted, counts}

-- the answer of a replay of the generated trace
abbrev pub IsAnswerOf : ℕ → Result Summary ReplayFault → Type 0
IsAnswerOf rounds (Ok summary) = (shortages : List Shortage) × EndedDone rounds shortages × (summary ≡ counts rounds shortages)
IsAnswerOf rounds (Err (ReplayFault.BadRecord place)) = (shortages : List Shortage) × EndedBad rounds shortages place
IsAnswerOf rounds (Err ReplayFault.OutOfMemory) = Unit {0}
IsAnswerOf rounds (Err ReplayFault.ReadFault) = ⊥
IsAnswerOf rounds (Err ReplayFault.WriteFault) = ⊥
IsAnswerOf rounds (Err (ReplayFault.Torn place)) = ⊥
IsAnswerOf rounds (Err (ReplayFault.BadHeader place)) = ⊥
IsAnswerOf rounds (Err ReplayFault.Records) = ⊥

-- by the status, the counts were pushed, or a beginning of them, or nothing for want of memory
abbrev pub IsPushed : Summary → List ℕ → Status → Type 0
IsPushed summary pushed Status.Done = pushed ≡ summary_text summary
IsPushed summary pushed Status.WriteFault = IsBeginning pushed (summary_text summary)
IsPushed summary pushed Status.OutOfMemory = pushed ≡ []
IsPushed summary pushed other = ⊥

pub record IsPushedSo (taken given : Option (List ℕ)) (writes writes_after : ℕ) (summary : Summary) (status : Status) : Type 0 where
  pub pushed : List ℕ
  pub output : Appends taken given pushed
  pub told : IsPushed summary pushed status
  pub counted : IsWriteCounted writes writes_after status
