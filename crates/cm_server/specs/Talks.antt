-- One connection that was served: its bytes, and its conversation
use Rattle.std.specs.Prelude.{◌≡◌, ◌≢◌, ◌≤◌, ◌-◌, ℕ, suc, List, [], ◌∷◌, length, slice_get, Option, Some, None, Bool, true, false}
use Rattle.cm_base.specs.Listening.{Gone}
use Rattle.cm_frame.specs.declared.frame.Request.{Request}
use Rattle.cm_frame.specs.Framing.{Framed, framed}
use Rattle.cmd_program.specs.Conversations.{Conversation}
use Rattle.cmd_program.specs.Exchanges.{requests_of}
use Rattle.session.specs.declared.end.SessionFault.{SessionFault}
use Rattle.session.specs.declared.end.SessionFault.TheVariants.{ReadFault, WriteFault, OutOfMemory, Unsettled}
use Rattle.session.specs.declared.end.SessionEnd.{SessionEnd}
use Rattle.session.specs.Spoken.{IsFront, AreRequests, ArePushed, whole_in}

-- what is told of one connection
pub record Talk : Type 0 where
  -- all bytes that its link had to give
  pub coming : List ℕ
  -- its link as it was given back
  pub gone : Gone
  pub conversation : Conversation
  pub end : SessionEnd

-- The requests are those in the bytes, up to where the session ended; where a pull failed, some first ones.
abbrev pub AreRequestsIn : Framed → List Request → Option SessionFault → Type 0
AreRequestsIn f requests (Some ReadFault) = IsFront f requests
AreRequestsIn f requests fault = AreRequests f requests fault

-- a pull or a push failed
abbrev pub is_of_link : Option SessionFault → Bool
is_of_link (Some ReadFault) = true
is_of_link (Some WriteFault) = true
is_of_link _ = false

-- it ended otherwise than by a command that was not settled
abbrev pub IsSettled : Option SessionFault → Type 0
IsSettled fault = fault ≢ Some Unsettled

-- The bytes, the conversation and the end agree.
pub record IsTalk (t : Talk) : Type 0 where
  pub requests : AreRequestsIn (framed t.coming) (requests_of t.conversation.exchanges) t.end.fault
  pub replies : ArePushed t.conversation.exchanges t.gone.taken t.end.fault
  pub settled : IsSettled t.end.fault
  pub frames : t.end.frames ≡ whole_in (length t.gone.taken) t.conversation.exchanges
  pub broken : t.gone.broken ≡ is_of_link t.end.fault

-- The talk was over the link of its nexus: those that came, in the order of accepting, have the nexuses from `first` on.
pub record IsOnLink (first : ℕ) (came : List (List ℕ)) (t : Talk) : Type 0 where
  pub low : first ≤ t.conversation.nexus
  pub at : slice_get came (t.conversation.nexus - first) ≡ Some t.coming

-- the nexuses are numbered from here on
abbrev pub AreNumbered : ℕ → List Talk → Type 0
AreNumbered n [] = Unit {0}
AreNumbered n (t ∷ ts) = (t.conversation.nexus ≡ n) × AreNumbered (suc n) ts

-- a session ended for want of memory
abbrev pub is_want : Option SessionFault → Bool
is_want (Some OutOfMemory) = true
is_want _ = false

-- a session ended with a fault other than want of memory
abbrev pub is_fault : Option SessionFault → Bool
is_fault None = false
is_fault (Some OutOfMemory) = false
is_fault (Some fault) = true
