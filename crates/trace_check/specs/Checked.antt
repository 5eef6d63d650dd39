-- What a check owes, by its answer
use Rattle.std.specs.Prelude.{◌≡◌, ℕ, List, [], Option, Result, Ok, Err, IfSome, codes}
use Rattle.std.specs.Io.KnownBytes.{Consumes, Appends, IsAtEnd}
use Rattle.cm_base.specs.Outside.{Faulted, IsBeginning}
use Rattle.cmd_program.specs.Stepping.{Stepping}
use Rattle.trace_replay.specs.declared.fault.ReplayFault.{ReplayFault}
use Rattle.trace_replay.specs.declared.fault.ReplayFault.TheVariants.{ReadFault, WriteFault, OutOfMemory}
use Rattle.trace_check.specs.declared.checker.CheckEnd.{CheckEnd}
use Rattle.trace_check.specs.Verdict.{verdict}

-- the word `yes` and a line feed
abbrev pub yes_line : List ℕ
yes_line = codes "yes\n"

-- Yes is told, and nothing else is.
abbrev pub told_of : Result CheckEnd ReplayFault → List ℕ
told_of (Ok CheckEnd.Yes) = yes_line
told_of _ = []

-- The answer is the verdict on the input, which was told. Where a read failed or memory was wanted nothing was told, and
-- where a write failed a beginning of the Yes.
abbrev pub IsVerdict : Stepping → List ℕ → List ℕ → Result CheckEnd ReplayFault → Type 0
IsVerdict step bytes pushed (Err ReadFault) = pushed ≡ []
IsVerdict step bytes pushed (Err OutOfMemory) = pushed ≡ []
IsVerdict step bytes pushed (Err WriteFault) = (verdict step bytes ≡ Ok CheckEnd.Yes) × IsBeginning pushed yes_line
IsVerdict step bytes pushed answer = (verdict step bytes ≡ answer) × (pushed ≡ told_of answer)

-- the input was read to its end, where the answer is Yes or Differs
abbrev pub IsReadWhole : Option (List ℕ) → Result CheckEnd ReplayFault → Type 0
IsReadWhole rest (Ok end) = IsAtEnd rest
IsReadWhole rest (Err fault) = Unit {0}

-- The bytes that the source had left, those that were pulled of them, and those that were pushed, such that the answer is
-- the verdict.
pub record Checked (step : Stepping) (left rest taken given : Option (List ℕ)) (answer : Result CheckEnd ReplayFault) : Type 0 where
  pub bytes : List ℕ
  pub pulled : List ℕ
  pub pushed : List ℕ
  pub input : IfSome left (λ all. bytes ≡ all)
  pub consumed : Consumes left rest pulled
  pub read : IsReadWhole rest answer
  pub output : Appends taken given pushed
  pub verdict : IsVerdict step bytes pushed answer

-- A failed read is answered only where the source counted one, and a failed write only where the sink did.
abbrev pub IsCheckCounted : ℕ → ℕ → ℕ → ℕ → Result CheckEnd ReplayFault → Type 0
IsCheckCounted reads reads_after writes writes_after (Err ReadFault) = Faulted reads reads_after × (writes_after ≡ writes)
IsCheckCounted reads reads_after writes writes_after (Err WriteFault) = (reads_after ≡ reads) × Faulted writes writes_after
IsCheckCounted reads reads_after writes writes_after _ = (reads_after ≡ reads) × (writes_after ≡ writes)
