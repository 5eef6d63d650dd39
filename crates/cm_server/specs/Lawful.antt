-- What the laws on histories say of what was served
use Rattle.std.specs.Prelude.{◌≢◌, ℕ, List, All, Bool, false}
use Rattle.cm_base.specs.Configuration.{Configuration}
use Rattle.cm_history.specs.declared.act.Actor.{Actor}
use Rattle.cm_history.specs.declared.act.Entry.{Entry}
use Rattle.cm_history.specs.Completeness.{OnlyAdvances, WritePromise}
use Rattle.cm_history.specs.History.{past_of}
use Rattle.cm_history.specs.Laws.{CountPromise, IsRedeemed, IsStarted, TokenPromise, place_on}
use Rattle.cmd_program.specs.Conversations.{Conversation, IsConversation, KeepsAll, WritesEndAsPromised}
use Rattle.cmd_program.specs.Judging.{step}
use Rattle.cm_server.specs.Recorders.{FoldsBy}
use Rattle.cm_server.specs.Stored.{FoldsOn}
use Rattle.lba_ranges.specs.HeldBlocks.{HeldBlocks}
use Rattle.lba_ranges.specs.declared.ranges.Range.{Range}
use Rattle.unit_gate.specs.declared.kin.RecorderFacts.{RecorderFacts}

-- of the entry at `start`: the promise on its token, on the count of what it began until `until`, and on its write
pub record AreLawful (config : Configuration) (entries : List Entry) (start until : ℕ) : Type 0 where
  pub token : (e : Entry) (text : List ℕ) (target : ℕ) (list : HeldBlocks)
      → IsRedeemed config entries start e text target list → TokenPromise config entries start e text list
  pub count : (e : Entry) (id : ℕ) (background : Bool) (ranges : List Range) (rod : HeldBlocks)
      → IsStarted config entries start e id background ranges rod → CountPromise config entries start until e id ranges
  pub write : (e : Entry) (id : ℕ) (ranges : List Range) (rod : HeldBlocks)
      → IsStarted config entries start e id false ranges rod
      → OnlyAdvances (place_on e.unit entries start) e.actor id (past_of config e.unit entries) → WritePromise config entries start e id

-- none of these entries is of the nexus
abbrev pub IsNewTo : List Entry → ℕ → Type 0
IsNewTo first nexus = All (λ (e : Entry). e.actor ≢ Actor.Nexus nexus) first

-- The writes of a conversation end as promised, where units keep their entries, have recorders, or journals, and where none of
-- the first entries is of its nexus.
pub record WritesAreLawful (config : Configuration) (first entries : List Entry) : Type 0 where
  pub kept : (c : Conversation) → IsNewTo first c.nexus
      → IsConversation step config KeepsAll entries c → WritesEndAsPromised config entries c
  pub recorded : (before after : List RecorderFacts) (c : Conversation) → IsNewTo first c.nexus
      → IsConversation step config (FoldsBy before after) entries c → WritesEndAsPromised config entries c
  pub stored : (before after : List ℕ) (c : Conversation) → IsNewTo first c.nexus
      → IsConversation step config (FoldsOn before after) entries c → WritesEndAsPromised config entries c
