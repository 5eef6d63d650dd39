-- What a replay owes, by its answer
use Rattle.std.specs.Prelude.{◌≡◌, ℕ, List, [], Option, Result, Ok, Err, ◌⊎◌, IfSome, IsTrue}
use Rattle.std.specs.Io.KnownBytes.{Consumes, Appends, IsAtEnd}
use Rattle.cm_base.specs.Configuration.{Configuration}
use Rattle.cm_base.specs.declared.parsed.Parsed.TheVariants.{Whole}
use Rattle.cm_base.specs.Outside.{Faulted, IsBeginning}
use Rattle.cm_history.specs.Legal.{IsLegal}
use Rattle.cm_frame.specs.Reading.{read_header}
use Rattle.cmd_program.specs.Stepping.{Stepping}
use Rattle.trace_replay.specs.declared.summary.Summary.{Summary}
use Rattle.trace_replay.specs.declared.fault.ReplayFault.{ReplayFault}
use Rattle.trace_replay.specs.declared.fault.ReplayFault.TheVariants.{ReadFault, WriteFault, OutOfMemory}
use Rattle.trace_replay.specs.Items.{Done, Torn, BadHeader, BadRecord, Records, Ending}
use Rattle.trace_replay.specs.ReplayState.{Shortage}
use Rattle.trace_replay.specs.Played.{Played, played, output_of, summary_of}
use Rattle.trace_replay.specs.Shortages.{may_lack, met_want}

-- The bytes that a replay is judged by are all that the source had left; where a pull failed, those that were pulled.
abbrev pub IsInput : Option (List ℕ) → List ℕ → List ℕ → Result Summary ReplayFault → Type 0
IsInput left pulled bytes (Err ReadFault) = bytes ≡ pulled
IsInput left pulled bytes _ = IfSome left (λ all. bytes ≡ all)

-- the source was read to its end, where the answer tells of the end of the input
abbrev pub IsReadSo : Option (List ℕ) → Result Summary ReplayFault → Type 0
IsReadSo rest (Ok summary) = IsAtEnd rest
IsReadSo rest (Err (ReplayFault.Torn place)) = IsAtEnd rest
IsReadSo rest _ = Unit {0}

-- all replies of the trace were written, and it ended so
abbrev pub EndsSo : Played → List ℕ → Ending → Type 0
EndsSo p pushed ending = (p.ending ≡ ending) × (pushed ≡ output_of p.state)

-- by its answer, what was written and how the trace ended
abbrev pub IsAnswer : Played → List ℕ → Result Summary ReplayFault → Type 0
IsAnswer p pushed (Ok summary) = EndsSo p pushed Done × (summary ≡ summary_of p.state)
IsAnswer p pushed (Err (ReplayFault.Torn place)) = EndsSo p pushed (Torn place)
IsAnswer p pushed (Err (ReplayFault.BadHeader place)) = EndsSo p pushed (BadHeader place)
IsAnswer p pushed (Err (ReplayFault.BadRecord place)) = EndsSo p pushed (BadRecord place)
IsAnswer p pushed (Err ReplayFault.Records) = EndsSo p pushed Records
IsAnswer p pushed (Err ReadFault) = pushed ≡ output_of p.state
IsAnswer p pushed (Err WriteFault) = IsBeginning pushed (output_of p.state)
IsAnswer p pushed (Err OutOfMemory) = IsBeginning pushed (output_of p.state)

-- The answer is that of the trace where memory is never refused, or a reply or a waiting command shows that memory was refused.
abbrev pub IsCompleteBy : Played → Played → List ℕ → Result Summary ReplayFault → Type 0
IsCompleteBy free short pushed (Err WriteFault) = Unit {0}
IsCompleteBy free short pushed (Err OutOfMemory) = Unit {0}
IsCompleteBy free short pushed answer = IsAnswer free pushed answer ⊎ IsTrue (met_want short.state)

-- what was played is a legal history
abbrev pub IsHistory : List ℕ → Played → Type 0
IsHistory bytes p = (config : Configuration) (used : ℕ) → read_header bytes ≡ Whole config used → IsLegal config p.state.entries

-- The bytes, the shortages, what was pulled and what was pushed, such that the answer is that of the trace.
pub record Replayed (step : Stepping) (left rest taken given : Option (List ℕ)) (answer : Result Summary ReplayFault) : Type 0 where
  pub bytes : List ℕ
  pub shortages : List Shortage
  pub pulled : List ℕ
  pub pushed : List ℕ
  pub input : IsInput left pulled bytes answer
  pub consumed : Consumes left rest pulled
  pub read : IsReadSo rest answer
  pub output : Appends taken given pushed
  pub allowed : IsTrue (may_lack step bytes shortages)
  pub ending : IsAnswer (played step bytes shortages) pushed answer
  pub complete : IsCompleteBy (played step bytes []) (played step bytes shortages) pushed answer

-- ---- the faults of the outside

-- A failed read is answered only where the source counted one, and a failed write only where the sink did.
abbrev pub IsCounted : ℕ → ℕ → ℕ → ℕ → Result Summary ReplayFault → Type 0
IsCounted reads reads_after writes writes_after (Err ReadFault) = Faulted reads reads_after × (writes_after ≡ writes)
IsCounted reads reads_after writes writes_after (Err WriteFault) = (reads_after ≡ reads) × Faulted writes writes_after
IsCounted reads reads_after writes writes_after _ = (reads_after ≡ reads) × (writes_after ≡ writes)
