-- How a session stands between two requests. No public clause cites this module.
use Rattle.std.specs.Prelude.{◌≡◌, ℕ, suc, ◌-◌, List, [], ◌∷◌, ◌++◌, length, All, Option, Some, None, Result, Ok, Err, Bool, true, false, ◌⊎◌}
use Rattle.std.specs.Io.KnownBytes.{Consumes, Appends}
use Rattle.cm_base.specs.Configuration.{Configuration}
use Rattle.cm_frame.specs.declared.frame.Request.{Request}
use Rattle.cm_frame.specs.declared.frame.Reply.{Reply}
use Rattle.cmd_program.specs.declared.step.Step.{Step}
use Rattle.cmd_program.specs.Judging.{step, program_after}
use Rattle.cmd_program.specs.Running.{Call}
use Rattle.cmd_program.specs.Short.{IsShort}
use Rattle.cmd_machine.specs.declared.command.CommandOf.{CommandOf}
use Rattle.any_cmds.specs.declared.phase.AnyPhase.{AnyPhase}
use Rattle.session.specs.declared.end.SessionFault.{SessionFault}
use Rattle.session.specs.declared.end.SessionEnd.{SessionEnd}
use Rattle.cm_frame.specs.Framing.{Framed, framed, framed_from, frames_limit}
use Rattle.cmd_program.specs.Exchanges.{Event, Exchange, AreCaused, IsExchange, outcomes_of, calls_in, requests_of, calls_of, replies_of}
use Rattle.cmd_machine.specs.Rest.{StandsFor}
use Rattle.any_cmds.specs.Meaning.{by_any}
use Rattle.session.specs.Spoken.{IsInput, AreRequests, AreSettled, Spoken, IsCounted, AreSettlesCounted}

-- the command stands for a request of the nexus, in which this happened so far
pub record IsGoing (config : Configuration) (nexus : ℕ) (request : Request) (command : CommandOf AnyPhase) (events : List Event) : Type 0 where
  pub caused : AreCaused step config nexus request [] events
  pub stands : StandsFor by_any config command nexus request (outcomes_of events)

-- it does so for some request, and so many acts are left
pub record Goes (config : Configuration) (nexus : ℕ) (command : CommandOf AnyPhase) (left : ℕ) : Type 0 where
  pub request : Request
  pub events : List Event
  pub is : IsGoing config nexus request command events
  pub short : IsShort (program_after config request (outcomes_of events)) left

-- the next step, for which memory may have been wanted
pub record HasNext (config : Configuration) (nexus : ℕ) (request : Request) (command : CommandOf AnyPhase) (events : List Event) (left : ℕ) (next : Step) : Type 0 where
  pub more : List Event
  pub none : calls_in (events ++ more) ≡ calls_in events
  pub is : IsGoing config nexus request command (events ++ more)
  pub short : IsShort (program_after config request (outcomes_of (events ++ more))) left
  pub next_is : next ≡ step config nexus request (outcomes_of (events ++ more))

-- the command was run to its reply
pub record HasReplied (config : Configuration) (nexus : ℕ) (request : Request) (Shows : ℕ → Type 0) (Made : List Call → Type 0) (calls : List Call)
    (reply : Reply) : Type 0 where
  pub events : List Event
  pub is : IsExchange step config nexus (record { request = request; events = events; reply = reply })
  pub made : Made (calls ++ calls_in events)
  pub shown : All (λ (c : Call). Shows c.moment) (calls_in events)

-- the requests, and before them these
abbrev pub with_all : List Request → Framed → Framed
with_all requests f = record f { requests = requests ++ f.requests }

-- What was pulled, with whatever comes behind it, is these requests and then what waits, where `n` more are allowed.
pub record IsHeard (left rest : Option (List ℕ)) (requests : List Request) (n : ℕ) (waits : List ℕ) : Type 0 where
  pub pulled : List ℕ
  pub consumed : Consumes left rest pulled
  pub frames : (more : List ℕ) → framed (pulled ++ more) ≡ with_all requests (framed_from n (waits ++ more))

-- no more requests are run, for this fault
pub record IsHeardTo (left rest : Option (List ℕ)) (requests : List Request) (fault : Option SessionFault) : Type 0 where
  pub bytes : List ℕ
  pub input : IsInput left rest bytes fault
  pub requests_are : AreRequests (framed bytes) requests fault

-- a request was found, or there is none
abbrev pub Hears : Option (List ℕ) → Option (List ℕ) → List Request → ℕ → List ℕ → Result (Option Request) SessionFault → Type 0
Hears left rest requests n waits (Ok (Some request)) = (m : ℕ) × (suc m ≡ n) × IsHeard left rest (requests ++ request ∷ []) m waits
Hears left rest requests n waits (Ok None) = IsHeardTo left rest requests None
Hears left rest requests n waits (Err e) = IsHeardTo left rest requests (Some e)

pub record IsAt (config : Configuration) (nexus : ℕ) (Shows : ℕ → Type 0) (Made : List Call → Type 0) (Settled : Type 0) (calls : List Call)
    (left rest taken given : Option (List ℕ)) (frames : ℕ) (waits : List ℕ) : Type 0 where
  pub exchanges : List Exchange
  pub asked : All (IsExchange step config nexus) exchanges
  pub made : Made (calls ++ calls_of exchanges)
  pub shown : All (λ (c : Call). Shows c.moment) (calls_of exchanges)
  pub heard : IsHeard left rest (requests_of exchanges) (frames_limit - frames) waits
  pub written : Appends taken given (replies_of exchanges)
  pub settled : AreSettled Settled exchanges None
  pub count : frames ≡ length exchanges

abbrev pub ended : ℕ → Option SessionFault → SessionEnd
ended frames fault = record { frames = frames; fault = fault }

-- one more command was answered, or the session is at its end
abbrev pub HasTurned : Configuration → ℕ → (ℕ → Type 0) → (List Call → Type 0) → Type 0 → List Call → Option (List ℕ) → Option (List ℕ) → Option (List ℕ) → Option (List ℕ)
    → ℕ → List ℕ → Result Bool SessionFault → Type 0
HasTurned config nexus Shows Made Settled calls left rest taken given frames waits (Ok true) = IsAt config nexus Shows Made Settled calls left rest taken given frames waits
HasTurned config nexus Shows Made Settled calls left rest taken given frames waits (Ok false) = Spoken step config nexus Shows Made Settled calls left rest taken given (ended frames None)
HasTurned config nexus Shows Made Settled calls left rest taken given frames waits (Err e) = Spoken step config nexus Shows Made Settled calls left rest taken given (ended frames (Some e))

abbrev pub fault_of : Result Unit SessionFault → Option SessionFault
fault_of (Ok done) = None
fault_of (Err e) = Some e

-- the counts of faults, by the result of a part of a session
abbrev pub IsCountedBy : {A : Type 0} → ℕ → ℕ → ℕ → ℕ → Result A SessionFault → Type 0
IsCountedBy {A} reads reads_after writes writes_after (Ok x) = IsCounted reads reads_after writes writes_after None
IsCountedBy {A} reads reads_after writes writes_after (Err e) = IsCounted reads reads_after writes writes_after (Some e)

-- the counts of settles that failed, by the result of a part of a session
abbrev pub IsSettledBy : {A : Type 0} → ℕ → ℕ → Result A SessionFault → Type 0
IsSettledBy {A} before after (Ok x) = AreSettlesCounted before after None
IsSettledBy {A} before after (Err e) = AreSettlesCounted before after (Some e)

-- a push failed, or memory was wanted
abbrev pub IsWriteEnd : SessionFault → Type 0
IsWriteEnd e = (e ≡ SessionFault.WriteFault) ⊎ (e ≡ SessionFault.OutOfMemory)

-- what is found at the end of the input
abbrev pub end_of : List ℕ → Result (Option Request) SessionFault
end_of [] = Ok None
end_of (b ∷ bs) = Err SessionFault.Torn
