-- What the program did where a generated trace was asked for
use Rattle.std.specs.Prelude.{◌≡◌, ℕ, List, [], Option, ◌⊎◌, IsTrue}
use Rattle.std.specs.Io.KnownBytes.{Appends}
use Rattle.cm_base.specs.Outside.{Faulted, IsBeginning}
use Rattle.cmd_program.specs.Judging.{step}
use Rattle.generator.specs.Generated.{generated}
use Rattle.trace_replay.specs.declared.summary.Summary.{Summary}
use Rattle.trace_replay.specs.Items.{Done, BadRecord}
use Rattle.trace_replay.specs.ReplayState.{Shortage}
use Rattle.trace_replay.specs.Played.{Played, played, summary_of}
use Rattle.trace_replay.specs.Shortages.{may_lack, met_want}
use Rattle.round_counts.specs.Counts.{HasCounts, counts_of}
use Rattle.copymgr.specs.declared.status.Status.{Status}
use Rattle.copymgr.specs.Told.{summary_text}

-- the generated trace, where memory was refused as the shortages say
abbrev pub played_rounds : ℕ → List Shortage → Played
played_rounds rounds shortages = played step (generated rounds) shortages

-- what was played of the generated trace, in numbers
abbrev pub counts : ℕ → List Shortage → Summary
counts rounds shortages = summary_of (played_rounds rounds shortages).state

-- The generated trace was played to its end, as it is where memory is never refused, and then with the counts of so many
-- rounds. Where other counts came of it, a reply or a waiting command shows want of memory.
pub record EndedDone (rounds : ℕ) (shortages : List Shortage) : Type 0 where
  pub allowed : IsTrue (may_lack step (generated rounds) shortages)
  pub ends : (played_rounds rounds shortages).ending ≡ Done
  pub free : HasCounts rounds
  pub shown : (counts rounds shortages ≡ counts_of rounds) ⊎ IsTrue (met_want (played_rounds rounds shortages).state)

-- It ended at an item that does not fit. Where memory is never refused it is played to its end; so a reply or a waiting
-- command shows want of memory.
pub record EndedBad (rounds : ℕ) (shortages : List Shortage) (place : ℕ) : Type 0 where
  pub allowed : IsTrue (may_lack step (generated rounds) shortages)
  pub ends : (played_rounds rounds shortages).ending ≡ BadRecord place
  pub free : HasCounts rounds
  pub shown : IsTrue (met_want (played_rounds rounds shortages).state)

-- What was pushed, by the status: the counts where the trace was played to its end, and else nothing. No other status comes.
abbrev pub IsTold : ℕ → List ℕ → Status → Type 0
IsTold rounds pushed Status.Done = (shortages : List Shortage) × EndedDone rounds shortages × (pushed ≡ summary_text (counts rounds shortages))
IsTold rounds pushed Status.WriteFault = (shortages : List Shortage) × EndedDone rounds shortages × IsBeginning pushed (summary_text (counts rounds shortages))
IsTold rounds pushed (Status.BadRecord place) = (shortages : List Shortage) × EndedBad rounds shortages place × (pushed ≡ [])
IsTold rounds pushed Status.OutOfMemory = pushed ≡ []
IsTold rounds pushed other = ⊥

-- a failed write is answered only where the sink counted one
abbrev pub IsWriteCounted : ℕ → ℕ → Status → Type 0
IsWriteCounted writes writes_after Status.WriteFault = Faulted writes writes_after
IsWriteCounted writes writes_after _ = writes_after ≡ writes

-- The trace of so many rounds was played, and its counts were told. What the sink took and its count of faults stand
-- before and after.
pub record HasGenerated (rounds : ℕ) (taken given : Option (List ℕ)) (writes writes_after : ℕ) (status : Status) : Type 0 where
  pub pushed : List ℕ
  pub output : Appends taken given pushed
  pub told : IsTold rounds pushed status
  pub counted : IsWriteCounted writes writes_after status
