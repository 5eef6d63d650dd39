-- How things stand between two items of a trace, and what one more item does
use Rattle.std.specs.Prelude.{ℕ, ◌+◌, List, [], ◌∷◌, ◌++◌, length, filter, find, count_by, Option, Some, None, is_some, Bool, ◌==◌, not, nat_lt, if◌then◌else◌}
use Rattle.cm_base.specs.Configuration.{Configuration}
use Rattle.cm_history.specs.declared.act.Act.{Act}
use Rattle.cm_history.specs.declared.act.Actor.{Actor}
use Rattle.cm_history.specs.declared.act.Actor.TheVariants.{Nexus}
use Rattle.cm_history.specs.declared.act.Entry.{Entry}
use Rattle.cm_history.specs.Deeds.{same_actor}
use Rattle.cm_history.specs.History.{past_of, answer}
use Rattle.cm_history.specs.Room.{is_full}
use Rattle.cm_base.specs.Units.{unit_of}
use Rattle.cm_frame.specs.declared.frame.Request.{Request}
use Rattle.cm_frame.specs.declared.frame.Reply.{Reply}
use Rattle.cm_frame.specs.declared.item.TraceItem.{TraceItem}
use Rattle.cmd_program.specs.declared.step.Outcome.{Outcome}
use Rattle.cmd_program.specs.declared.step.Step.{Step}
use Rattle.cmd_program.specs.Stepping.{Stepping}

-- a command that waits for its next Run, with the outcomes of its acts so far
pub record Pending : Type 0 where
  pub initiator : ℕ
  pub request : Request
  pub outcomes : List Outcome

-- a reply, and whom it is for
pub record AddressedReply : Type 0 where
  pub initiator : ℕ
  pub reply : Reply

-- what was played so far, and what it left
pub record ReplayState : Type 0 where
  -- how many items were played
  pub items : ℕ
  -- the history, the oldest entry first
  pub entries : List Entry
  -- at most one command of each initiator
  pub pending : List Pending
  -- the replies so far, in order
  pub replies : List AddressedReply

-- before the first item
abbrev pub at_first : ReplayState
at_first = record { items = 0; entries = []; pending = []; replies = [] }

-- where memory was refused at a Begin or Run: nowhere, at the beginning of its command, at its act, or at its next step
pub data Shortage : Type 0 where
  Nowhere : Shortage
  AtBegin : Shortage
  AtAct : Shortage
  AtStep : Shortage

-- ---- pending commands

-- the command is of this initiator
abbrev pub is_of : ℕ → Pending → Bool
is_of initiator p = p.initiator == initiator

-- the command of this initiator that waits
abbrev pub waiting : ℕ → List Pending → Option Pending
waiting initiator pending = find (is_of initiator) pending

-- the commands of all other initiators
abbrev pub without : ℕ → List Pending → List Pending
without initiator pending = filter (λ (p : Pending). not (is_of initiator p)) pending

-- ---- one act

-- how many entries of the actor there are
abbrev pub seq : Actor → List Entry → ℕ
seq actor entries = count_by (λ (e : Entry). same_actor e.actor actor) entries

-- All actors share one last stamp, so stamps are 1, 2, 3 in the order of entries.
abbrev pub new_entry : List Entry → Actor → ℕ → ℕ → Act → Entry
new_entry entries actor unit moment act =
    record { stamp = length entries + 1; unit = unit; actor = actor; seq = seq actor entries; moment = moment; act = act }

-- the unit's record has no room for the act
abbrev pub has_no_room : Configuration → List Entry → Actor → ℕ → Act → Bool
has_no_room config entries actor unit act =
    is_full (unit_of config unit) 0 (past_of config unit entries) actor (length entries) act

-- the history after an act: one more entry, where there is room
abbrev pub entries_after : Configuration → List Entry → Actor → ℕ → ℕ → Act → List Entry
entries_after config entries actor unit moment act =
    if has_no_room config entries actor unit act then entries else entries ++ new_entry entries actor unit moment act ∷ []

-- what comes of an act: the unit's answer, where its record has room
abbrev pub outcome_of : Configuration → List Entry → Actor → ℕ → ℕ → Act → Outcome
outcome_of config entries actor unit moment act =
    if has_no_room config entries actor unit act then Outcome.Full else Outcome.Answered (answer config entries unit actor moment act)

-- ---- one item

-- a reply of the initiator's command, which then waits no more
abbrev pub replied : ReplayState → ℕ → Reply → ReplayState
replied s initiator reply = record s {
  pending = without initiator s.pending;
  replies = s.replies ++ (record { initiator = initiator; reply = reply }) ∷ [];
}

-- by its next step a command is answered, or waits
abbrev pub goes_on : ReplayState → Pending → Step → ReplayState
goes_on s p (Step.Done reply) = replied s p.initiator reply
goes_on s p (Step.Do unit act) = record s { pending = without p.initiator s.pending ++ p ∷ [] }

-- what the command does next, by the outcomes so far
abbrev pub next_step : Stepping → Configuration → Pending → Step
next_step step config p = step config p.initiator p.request p.outcomes

-- the command does its next step
abbrev pub gone_on : Stepping → Configuration → ReplayState → Pending → ReplayState
gone_on step config s p = goes_on s p (next_step step config p)

-- where the next step finds no memory the command gives up
abbrev pub noted_at_step : Shortage → List Outcome
noted_at_step AtStep = Outcome.NoMemory ∷ []
noted_at_step _ = []

-- a command begins: BUSY where memory is refused at its beginning, else it does its first step
abbrev pub begun : Stepping → Configuration → ReplayState → ℕ → Request → Shortage → ReplayState
begun step config s initiator request AtBegin = replied s initiator Reply.Busy
begun step config s initiator request shortage =
    gone_on step config s (record { initiator = initiator; request = request; outcomes = noted_at_step shortage })

-- the command with more outcomes
abbrev pub noted : Pending → List Outcome → Pending
noted p more = record p { outcomes = p.outcomes ++ more }

-- the outcomes of the command's act; only where memory is refused there, it is not done
abbrev pub outcomes_at : Shortage → Outcome → List Outcome
outcomes_at AtAct outcome = Outcome.NoMemory ∷ []
outcomes_at shortage outcome = outcome ∷ noted_at_step shortage

-- the history after an act; where memory is refused for it, the history as it was
abbrev pub entries_at : Shortage → List Entry → List Entry → List Entry
entries_at AtAct before after = before
entries_at shortage before after = after

-- the act is done, where memory was there for it
abbrev pub acted : Configuration → ReplayState → Actor → ℕ → ℕ → Act → Shortage → ReplayState
acted config s actor unit moment act shortage =
    record s { entries = entries_at shortage s.entries (entries_after config s.entries actor unit moment act) }

-- what the command notes of its act
abbrev pub noted_act : Configuration → ReplayState → Pending → ℕ → ℕ → Act → Shortage → Pending
noted_act config s p unit moment act shortage =
    noted p (outcomes_at shortage (outcome_of config s.entries (Nexus p.initiator) unit moment act))

-- the act that the command asks for is done, and the command goes on
abbrev pub did : Stepping → Configuration → ReplayState → ℕ → Pending → Shortage → Step → ReplayState
did step config s moment p shortage (Step.Done reply) = s
did step config s moment p shortage (Step.Do unit act) =
    gone_on step config (acted config s (Nexus p.initiator) unit moment act shortage) (noted_act config s p unit moment act shortage)

-- a Run: the command that waits does its act
abbrev pub ran : Stepping → Configuration → ReplayState → ℕ → Shortage → Option Pending → ReplayState
ran step config s moment shortage None = s
ran step config s moment shortage (Some p) = did step config s moment p shortage (next_step step config p)

-- what the item does
abbrev pub changed : Stepping → Configuration → ReplayState → TraceItem → Shortage → ReplayState
changed step config s (TraceItem.Begin initiator moment request) shortage = begun step config s initiator request shortage
changed step config s (TraceItem.Run initiator moment) shortage = ran step config s moment shortage (waiting initiator s.pending)
changed step config s (TraceItem.Pump unit moment) shortage =
    record s { entries = entries_after config s.entries (Actor.Pump unit) unit moment Act.Pump }

-- after one more item
abbrev pub after_item : Stepping → Configuration → ReplayState → TraceItem → Shortage → ReplayState
after_item step config s item shortage = changed step config (record s { items = s.items + 1 }) item shortage

-- A Begin fits where no command of its initiator waits, a Run where one does, and a Pump where its unit is there.
abbrev pub item_fits : Configuration → ReplayState → TraceItem → Bool
item_fits config s (TraceItem.Begin initiator moment request) = not (is_some (waiting initiator s.pending))
item_fits config s (TraceItem.Run initiator moment) = is_some (waiting initiator s.pending)
item_fits config s (TraceItem.Pump unit moment) = nat_lt unit (length config.units)
