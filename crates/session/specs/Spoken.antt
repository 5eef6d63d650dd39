-- What one session owes, by how it ends
use Rattle.std.specs.Prelude.{◌≡◌, ◌≤◌, ℕ, ◌-◌, List, [], ◌∷◌, ◌++◌, length, All, Option, Some, None, IfSome, nat_le, if◌then◌else◌, suc}
use Rattle.std.specs.Io.KnownBytes.{Consumes, Appends, IsAtEnd}
use Rattle.cm_base.specs.Configuration.{Configuration}
use Rattle.cm_base.specs.Outside.{Faulted, IsBeginning}
use Rattle.cm_frame.specs.declared.frame.Request.{Request}
use Rattle.cm_frame.specs.Grammar.{reply_bytes}
use Rattle.cmd_program.specs.Running.{Call}
use Rattle.cmd_program.specs.Stepping.{Stepping}
use Rattle.session.specs.declared.end.SessionFault.{SessionFault}
use Rattle.session.specs.declared.end.SessionFault.TheVariants.{ReadFault, WriteFault, Torn, BadFrame, Frames, OutOfMemory, Unsettled}
use Rattle.session.specs.declared.end.SessionEnd.{SessionEnd}
use Rattle.cm_frame.specs.Framing.{Framed, Ending, framed}
use Rattle.cmd_program.specs.Exchanges.{Exchange, IsExchange, requests_of, calls_of, replies_of}

-- The bytes by which a session is judged: those that were pulled, up to the end of the input where the session ends with
-- it; where it ends before, all that the link had.
abbrev pub IsInput : Option (List ℕ) → Option (List ℕ) → List ℕ → Option SessionFault → Type 0
IsInput left rest bytes None = Consumes left rest bytes × IsAtEnd rest
IsInput left rest bytes (Some Torn) = Consumes left rest bytes × IsAtEnd rest
IsInput left rest bytes (Some ReadFault) = Consumes left rest bytes
IsInput left rest bytes _ = IfSome left (λ all. bytes ≡ all)

-- these are all requests of the bytes, and the bytes end so
abbrev pub EndsSo : Framed → List Request → Ending → Type 0
EndsSo f requests ending = (f.requests ≡ requests) × (f.ending ≡ ending)

-- these are the first requests of the bytes
abbrev pub IsFront : Framed → List Request → Type 0
IsFront f requests = (later : List Request) × (f.requests ≡ requests ++ later)

-- by how it ends, which of the requests were run
abbrev pub AreRequests : Framed → List Request → Option SessionFault → Type 0
AreRequests f requests None = EndsSo f requests Ending.Done
AreRequests f requests (Some Torn) = EndsSo f requests Ending.Torn
AreRequests f requests (Some BadFrame) = EndsSo f requests Ending.BadFrame
AreRequests f requests (Some Frames) = EndsSo f requests Ending.Frames
AreRequests f requests (Some ReadFault) = f.requests ≡ requests
AreRequests f requests (Some WriteFault) = IsFront f requests
AreRequests f requests (Some OutOfMemory) = IsFront f requests
AreRequests f requests (Some Unsettled) = IsFront f requests

-- the replies of all commands but the last were pushed, and nothing of that one's
pub record AreAllButLast (exchanges : List Exchange) (pushed : List ℕ) : Type 0 where
  pub told : List Exchange
  pub last : Exchange
  pub all : told ++ last ∷ [] ≡ exchanges
  pub pushed_are : pushed ≡ replies_of told

-- All replies were pushed; where a push failed or memory was wanted, a beginning of them; and where the last command could not
-- be settled, the others.
abbrev pub ArePushed : List Exchange → List ℕ → Option SessionFault → Type 0
ArePushed exchanges pushed (Some WriteFault) = IsBeginning pushed (replies_of exchanges)
ArePushed exchanges pushed (Some OutOfMemory) = IsBeginning pushed (replies_of exchanges)
ArePushed exchanges pushed (Some Unsettled) = AreAllButLast exchanges pushed
ArePushed exchanges pushed _ = pushed ≡ replies_of exchanges

-- What the commands did is settled, if there were any; but not where the last of them could not be.
abbrev pub AreSettled : Type 0 → List Exchange → Option SessionFault → Type 0
AreSettled Settled [] fault = Unit {0}
AreSettled Settled (x ∷ xs) (Some Unsettled) = Unit {0}
AreSettled Settled (x ∷ xs) fault = Settled

-- how many of these replies are whole in so many bytes
abbrev pub whole_in : ℕ → List Exchange → ℕ
whole_in bytes [] = 0
whole_in bytes (x ∷ xs) =
    if nat_le (length (reply_bytes x.reply)) bytes then suc (whole_in (bytes - length (reply_bytes x.reply)) xs) else 0

-- The commands of a session: what was asked by each, at moments that are shown, and what came of it. `Made` says which
-- lists of calls the nexus stands for now, and `Settled` that it is settled; before the session it stood for `calls`.
pub record Spoken (step : Stepping) (config : Configuration) (nexus : ℕ) (Shows : ℕ → Type 0) (Made : List Call → Type 0) (Settled : Type 0) (calls : List Call)
    (left rest taken given : Option (List ℕ)) (end : SessionEnd) : Type 0 where
  pub exchanges : List Exchange
  -- the new calls are those that the programs of the requests asked for, one request after the other
  pub asked : All (IsExchange step config nexus) exchanges
  pub made : Made (calls ++ calls_of exchanges)
  pub shown : All (λ (c : Call). Shows c.moment) (calls_of exchanges)
  -- the requests are those in the bytes, however these were cut
  pub bytes : List ℕ
  pub input : IsInput left rest bytes end.fault
  pub requests : AreRequests (framed bytes) (requests_of exchanges) end.fault
  -- the replies are those of the programs
  pub pushed : List ℕ
  pub output : Appends taken given pushed
  pub replies : ArePushed exchanges pushed end.fault
  -- what the commands did is settled
  pub settled : AreSettled Settled exchanges end.fault
  pub frames : end.frames ≡ whole_in (length pushed) exchanges
  -- no command is begun before the reply of the one before it was pushed
  pub turns : length exchanges ≤ suc end.frames

-- ---- the faults of the link

-- A failed read is answered only where the link counted one, and a failed write only where it counted one.
abbrev pub IsCounted : ℕ → ℕ → ℕ → ℕ → Option SessionFault → Type 0
IsCounted reads reads_after writes writes_after (Some ReadFault) = Faulted reads reads_after × (writes_after ≡ writes)
IsCounted reads reads_after writes writes_after (Some WriteFault) = (reads_after ≡ reads) × Faulted writes writes_after
IsCounted reads reads_after writes writes_after _ = (reads_after ≡ reads) × (writes_after ≡ writes)

-- A session ends unsettled only where a settle failed, which was counted.
abbrev pub AreSettlesCounted : ℕ → ℕ → Option SessionFault → Type 0
AreSettlesCounted before after (Some Unsettled) = Faulted before after
AreSettlesCounted before after _ = after ≡ before
