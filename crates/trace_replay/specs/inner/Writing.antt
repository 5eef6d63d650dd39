-- What was written so far, and what waits to be written.
use Rattle.std.specs.Prelude.{◌≡◌, ℕ, List, ◌++◌, Option, Result, Ok, Err, ◌⊎◌}
use Rattle.std.specs.Io.KnownBytes.{Appends}
use Rattle.cm_base.specs.Outside.{IsBeginning}
use Rattle.trace_replay.specs.declared.fault.ReplayFault.{ReplayFault}
use Rattle.trace_replay.specs.Replayed.{IsCounted}

-- of these bytes the last wait, and the others were pushed
pub record IsWritten (taken given : Option (List ℕ)) (waits bytes : List ℕ) : Type 0 where
  pub pushed : List ℕ
  pub written : Appends taken given pushed
  pub all : pushed ++ waits ≡ bytes

-- a beginning of these bytes was pushed
pub record IsBegun (taken given : Option (List ℕ)) (bytes : List ℕ) : Type 0 where
  pub pushed : List ℕ
  pub written : Appends taken given pushed
  pub begins : IsBeginning pushed bytes

-- a write failed, or memory was wanted
abbrev pub IsWriteFault : ReplayFault → Type 0
IsWriteFault e = (e ≡ ReplayFault.WriteFault) ⊎ (e ≡ ReplayFault.OutOfMemory)

-- all of these bytes were written or wait, or it failed in them
abbrev pub Writes : {A : Type 0} → Option (List ℕ) → Option (List ℕ) → List ℕ → List ℕ → Result A ReplayFault → Type 0
Writes taken given waits bytes (Ok x) = IsWritten taken given waits bytes
Writes taken given waits bytes (Err e) = IsBegun taken given bytes × IsWriteFault e

-- the counts of faults, by the result of a part of a replay
abbrev pub IsCountedBy : {A : Type 0} → ℕ → ℕ → ℕ → ℕ → Result A ReplayFault → Type 0
IsCountedBy reads reads_after writes writes_after (Ok x) = (reads_after ≡ reads) × (writes_after ≡ writes)
IsCountedBy reads reads_after writes writes_after (Err e) = IsCounted reads reads_after writes writes_after (Err e)
