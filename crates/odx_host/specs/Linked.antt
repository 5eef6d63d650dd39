-- What is asked over a connection: frames that are pushed, and frames that are pulled
use Rattle.std.specs.Prelude.{◌≡◌, ◌⊎◌, ℕ, ◌≤◌, List, [], ◌∷◌, ◌++◌, length, drop, Option, Result, Ok, Err}
use Rattle.std.proofs.Common.{subst}
use Rattle.std.specs.Io.KnownBytes.{Consumes, Appends, IsAtEnd}
use Rattle.cm_base.specs.Outside.{Faulted}
use Rattle.cm_base.specs.Sides.{IsCut}
use Rattle.cm_base.specs.declared.input_buffer.FillFailed.{FillFailed}
use Rattle.cm_base.specs.declared.parsed.Parsed.TheVariants.{Whole, Short, Bad}
use Rattle.cm_frame.specs.declared.frame.Reply.{Reply}
use Rattle.cm_frame.specs.Grammar.{request_bytes}
use Rattle.cm_frame.specs.Reading.{read_reply}
use Rattle.odx_host.specs.declared.port.PortFault.{PortFault}
use Rattle.odx_host.specs.declared.port.PortFault.TheVariants.{OutOfMemory, ReadFault, WriteFault, Ended, BadReply}
use Rattle.odx_host.specs.Talk.{Talked}

-- a fault of a fill, as one of the port
abbrev pub fault_of : FillFailed → PortFault
fault_of FillFailed.Read = ReadFault
fault_of FillFailed.OutOfMemory = OutOfMemory

-- a connection, and the bytes that were pulled and not used yet
pub record Linked (K : Type 0) : Type 0 where
  pub link : K
  pub input : List ℕ

-- what is told of it
pub record LinkState : Type 0 where
  -- the bytes that pulls will give
  pub left : Option (List ℕ)
  -- those that were pulled and not used
  pub input : List ℕ
  -- the bytes that it took
  pub taken : Option (List ℕ)
  pub read_faults : ℕ
  pub write_faults : ℕ

-- how much of a frame was pushed, by what came of it
abbrev pub IsPushed : Result Reply PortFault → List ℕ → List ℕ → Type 0
IsPushed (Err OutOfMemory) frame pushed = (pushed ≡ []) ⊎ (pushed ≡ frame)
IsPushed (Err WriteFault) frame pushed = IsCut pushed frame
IsPushed answer frame pushed = pushed ≡ frame

-- What the bytes that were pulled so far are, and what is left of them: a reply stands at their front, or what is none, or
-- the input ended before a whole one. Behind another fault nothing is used.
abbrev pub IsRead : Result Reply PortFault → List ℕ → List ℕ → Type 0
IsRead (Ok reply) bytes rest = (used : ℕ) × (read_reply bytes ≡ Whole reply used) × (used ≤ length bytes) × (rest ≡ drop used bytes)
IsRead (Err BadReply) bytes rest = ((place : ℕ) × (read_reply bytes ≡ Bad place)) × (rest ≡ bytes)
IsRead (Err Ended) bytes rest = (read_reply bytes ≡ Short) × (rest ≡ bytes)
IsRead (Err fault) bytes rest = rest ≡ bytes

-- the input has ended
abbrev pub EndsThere : Result Reply PortFault → Option (List ℕ) → Type 0
EndsThere (Err Ended) left = IsAtEnd left
EndsThere answer left = Unit {0}

-- a failed read is answered only where one was counted, and so a failed write
abbrev pub IsCounted : Result Reply PortFault → ℕ → ℕ → ℕ → ℕ → Type 0
IsCounted (Err ReadFault) reads reads_after writes writes_after = Faulted reads reads_after × (writes_after ≡ writes)
IsCounted (Err WriteFault) reads reads_after writes writes_after = (reads_after ≡ reads) × Faulted writes writes_after
IsCounted answer reads reads_after writes writes_after = (reads_after ≡ reads) × (writes_after ≡ writes)

-- one request: its frame was pushed, and the next reply was read
pub record IsSpoken (before after : LinkState) (t : Talked) : Type 0 where
  pub pushed : List ℕ
  pub given : Appends before.taken after.taken pushed
  pub frame : IsPushed t.answer (request_bytes t.request) pushed
  pub pulled : List ℕ
  pub consumed : Consumes before.left after.left pulled
  pub reply : IsRead t.answer (before.input ++ pulled) after.input
  pub ended : EndsThere t.answer after.left
  pub counted : IsCounted t.answer before.read_faults after.read_faults before.write_faults after.write_faults

-- requests, one after the other
abbrev pub Spoke : LinkState → List Talked → LinkState → Type 0
Spoke before [] after = after ≡ before
Spoke before (t ∷ ts) after = (between : LinkState) × IsSpoken before between t × Spoke between ts after

pub spoke-append : (a b c : LinkState) (xs ys : List Talked) → Spoke a xs b → Spoke b ys c → Spoke a (xs ++ ys) c
spoke-append a b c [] ys first later = subst (λ s. Spoke s ys c) first later
spoke-append a b c (x ∷ xs) ys first later = (first.0, first.1, spoke-append first.0 b c xs ys first.2 later)
