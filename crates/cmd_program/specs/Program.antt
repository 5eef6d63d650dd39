-- Programs of acts, which each outcome moves on
use Rattle.std.specs.Prelude.{ℕ, List, [], Option, Some, None}
use Rattle.scsi_sense.specs.SenseCode.{SenseCode}
use Rattle.lba_ranges.specs.HeldBlocks.{HeldBlocks}
use Rattle.cm_frame.specs.declared.frame.Reply.{Reply}
use Rattle.cm_history.specs.declared.act.Act.{Act}
use Rattle.cm_history.specs.declared.answer.Answer.{Answer}
use Rattle.cm_history.specs.declared.answer.OpReport.{OpReport}
use Rattle.pr_keys.specs.declared.refused.Refusal.{Refusal}
use Rattle.cmd_program.specs.declared.step.Outcome.{Outcome}
use Rattle.cmd_program.specs.declared.step.Step.{Step}

-- an act that is asked of a unit
pub record Ask : Type 0 where
  pub unit : ℕ
  pub act : Act

-- A command ends with a reply; or it asks for an act, says what it still has to ask if it must give up there,
-- and goes on by the answer; or it has given up, and asks a last time before its reply.
pub data Program : Type 0 where
  Ends : Reply → Program
  Asks : Ask → Option Ask → (Answer → Program) → Program
  GivesUp : Option Ask → Reply → Program

-- what the program does next
abbrev pub next : Program → Step
next (Ends reply) = Step.Done reply
next (Asks ask last go_on) = Step.Do ask.unit ask.act
next (GivesUp (Some ask) reply) = Step.Do ask.unit ask.act
next (GivesUp None reply) = Step.Done reply

-- the program gives up, unless it did so before
abbrev pub give_up : Program → Reply → Program
give_up (Ends ended) reply = GivesUp None reply
give_up (Asks ask last go_on) reply = GivesUp last reply
give_up (GivesUp last first) reply = GivesUp None first

-- the program after an answer; a last question is asked once, whatever its answer
abbrev pub go_on_by : Program → Answer → Program
go_on_by (Ends reply) answer = Ends reply
go_on_by (Asks ask last go_on) answer = go_on answer
go_on_by (GivesUp last reply) answer = GivesUp None reply

-- the program after an outcome
abbrev pub moved : Program → Outcome → Program
moved program (Outcome.Answered answer) = go_on_by program answer
moved program Outcome.Full = give_up program Reply.Full
moved program Outcome.NoMemory = give_up program Reply.Busy

-- ---- words for programs

-- GOOD, with this data
abbrev pub good : List ℕ → Program
good bytes = Ends (Reply.Good bytes)

-- GOOD, with no data
abbrev pub done : Program
done = good []

-- CHECK CONDITION, with this sense
abbrev pub refused : SenseCode → Program
refused sense = Ends (Reply.Check sense)

-- RESERVATION CONFLICT
abbrev pub conflict : Program
conflict = Ends Reply.Conflict

-- the command ends by this refusal
abbrev pub refused_as : Refusal → Program
refused_as Refusal.Conflict = conflict
refused_as (Refusal.Refused sense) = refused sense

-- stands behind an answer of another kind than the act's: no such answer has the form of the act, so this is never come to
abbrev pub never : Program
never = Ends Reply.Busy

-- a refusal ends the command; any other answer goes on
abbrev pub unless_refused : Program → Answer → Program
unless_refused rest (Answer.Refused sense) = refused sense
unless_refused rest Answer.Conflict = conflict
unless_refused rest _ = rest

-- goes on with the blocks of an answer, or by its refusal
abbrev pub with_blocks : (HeldBlocks → Program) → (Refusal → Program) → Answer → Program
with_blocks go_on if_refused (Answer.Blocks list) = go_on list
with_blocks go_on if_refused (Answer.Refused sense) = if_refused (Refusal.Refused sense)
with_blocks go_on if_refused Answer.Conflict = if_refused Refusal.Conflict
with_blocks go_on if_refused _ = never

-- goes on with the report of an answer; a refusal ends the command
abbrev pub with_report : (OpReport → Program) → Answer → Program
with_report go_on (Answer.Report report) = go_on report
with_report go_on (Answer.Refused sense) = refused sense
with_report go_on _ = never

-- an act at which nothing is left to ask if the command must give up
abbrev pub ask_then : ℕ → Act → (Answer → Program) → Program
ask_then unit act go_on = Asks (record { unit = unit; act = act }) None go_on
