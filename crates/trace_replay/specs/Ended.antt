-- The commands that a played trace ended, and what came of their acts
use Rattle.std.specs.Prelude.{ℕ, List, [], ◌∷◌, ◌++◌, drop, Option, Some, None, if◌then◌else◌}
use Rattle.cm_base.specs.Configuration.{Configuration}
use Rattle.cm_base.specs.declared.parsed.Parsed.{Parsed}
use Rattle.cm_base.specs.declared.parsed.Parsed.TheVariants.{Whole}
use Rattle.cm_frame.specs.declared.frame.Request.{Request}
use Rattle.cm_frame.specs.declared.frame.Reply.{Reply}
use Rattle.cm_frame.specs.declared.item.TraceItem.{TraceItem}
use Rattle.cm_frame.specs.Reading.{read_header}
use Rattle.cmd_program.specs.declared.step.Outcome.{Outcome}
use Rattle.cmd_program.specs.declared.step.Step.{Step}
use Rattle.cmd_program.specs.Stepping.{Stepping}
use Rattle.cmd_program.specs.WriteEnds.{IsWriteNow, EndsAsPromised}
use Rattle.trace_replay.specs.Items.{Placed, trace_of, items_limit}
use Rattle.trace_replay.specs.ReplayState.{Pending, AddressedReply, ReplayState, Shortage, AtBegin, at_first, waiting, next_step, after_item, item_fits, noted_at_step, noted_act}
use Rattle.trace_replay.specs.Played.{shortage_for, shortages_behind}

-- a command with the outcomes of all its acts, and its reply
pub record Ended : Type 0 where
  pub initiator : ℕ
  pub request : Request
  pub outcomes : List Outcome
  pub reply : Reply

-- the command ends by its next step, or waits
abbrev pub ended_by : Pending → Step → List Ended
ended_by p (Step.Do unit act) = []
ended_by p (Step.Done reply) = (record { initiator = p.initiator; request = p.request; outcomes = p.outcomes; reply = reply }) ∷ []

-- the command, if its next step ends it
abbrev pub ended_now : Stepping → Configuration → Pending → List Ended
ended_now step config p = ended_by p (next_step step config p)

-- a command may end at once
abbrev pub ended_at_begin : Stepping → Configuration → ℕ → Request → Shortage → List Ended
ended_at_begin step config initiator request AtBegin =
    (record { initiator = initiator; request = request; outcomes = Outcome.NoMemory ∷ []; reply = Reply.Busy }) ∷ []
ended_at_begin step config initiator request shortage =
    ended_now step config (record { initiator = initiator; request = request; outcomes = noted_at_step shortage })

-- a command may end by what it notes of its act
abbrev pub ended_at_act : Stepping → Configuration → ReplayState → ℕ → Shortage → Pending → Step → List Ended
ended_at_act step config s moment shortage p (Step.Done reply) = []
ended_at_act step config s moment shortage p (Step.Do unit act) = ended_now step config (noted_act config s p unit moment act shortage)

-- the command that waits, if the Run ends it
abbrev pub ended_at_run : Stepping → Configuration → ReplayState → ℕ → Shortage → Option Pending → List Ended
ended_at_run step config s moment shortage None = []
ended_at_run step config s moment shortage (Some p) = ended_at_act step config s moment shortage p (next_step step config p)

-- the command that the item ends, if it ends one
abbrev pub ended_at : Stepping → Configuration → ReplayState → TraceItem → Shortage → List Ended
ended_at step config s (TraceItem.Begin initiator moment request) shortage = ended_at_begin step config initiator request shortage
ended_at step config s (TraceItem.Run initiator moment) shortage = ended_at_run step config s moment shortage (waiting initiator s.pending)
ended_at step config s (TraceItem.Pump unit moment) shortage = []

-- those of the items one after another, up to the first that does not fit
abbrev pub ended_in : Stepping → Configuration → ReplayState → List Placed → List Shortage → List Ended
ended_in step config s [] shortages = []
ended_in step config s (x ∷ xs) shortages =
    if item_fits config s x.item
    then ended_at step config s x.item (shortage_for x.item shortages)
    ++ ended_in step config (after_item step config s x.item (shortage_for x.item shortages)) xs (shortages_behind x.item shortages)
    else []

-- behind a header that is torn or bad no command ends
abbrev pub ended_after : Stepping → Parsed Configuration → List ℕ → List Shortage → List Ended
ended_after step (Whole config used) bytes shortages = ended_in step config at_first (trace_of items_limit used (drop used bytes)).items shortages
ended_after step _ bytes shortages = []

-- those of a whole input
abbrev pub ended : Stepping → List ℕ → List Shortage → List Ended
ended step bytes shortages = ended_after step (read_header bytes) bytes shortages

-- whom the reply is for
abbrev pub reply_to : Ended → AddressedReply
reply_to e = record { initiator = e.initiator; reply = e.reply }

-- A WRITE USING TOKEN without IMMED ends as promised: an Advance of its operation never finds the record full.
abbrev pub IsKeptTo : Configuration → Ended → Type 0
IsKeptTo config e = IsWriteNow e.request → EndsAsPromised ⊥ config e.request e.outcomes e.reply
