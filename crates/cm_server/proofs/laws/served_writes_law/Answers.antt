use Rattle.std.proofs.Common.{List, []}
use Rattle.cm_base.specs.Configuration.{Configuration}
use Rattle.cm_history.specs.declared.act.Entry.{Entry}
use Rattle.cm_server.proofs.Apart.{apart-own, rise-behind}
use Rattle.cm_server.proofs.Folds.{conversation-as}
use Rattle.cm_server.specs.Lawful.{WritesAreLawful}
use Rattle.cm_server.specs.Recorders.{FoldsBy}
use Rattle.cm_server.specs.Stored.{FoldsOn}
use Rattle.cmd_program.specs.Conversations.{Conversation, IsConversation, AreApart, FoldsAny, KeepsAll, WritesEndAsPromised}
use Rattle.cmd_program.specs.InHistory.{entries_by}
use Rattle.cmd_program.specs.Judging.{step}
use Rattle.merged_history.specs.Merged.{RiseBehind}
use Rattle.cm_server.proofs.laws.served_writes_law.Goals as goal

lawful : (config : Configuration) (first entries : List Entry)
    → ((c : Conversation) → AreApart (entries_by c.nexus entries) → IsConversation step config FoldsAny entries c → WritesEndAsPromised config entries c)
    → RiseBehind first entries → WritesAreLawful config first entries
lawful config first entries law rise = record {
  kept = λ it new is. law it (apart-own it.nexus first entries rise new) (conversation-as KeepsAll FoldsAny (λ unit count folded may. tt) step config entries it is);
  recorded = λ before after it new is. law it (apart-own it.nexus first entries rise new) (conversation-as (FoldsBy before after) FoldsAny (λ unit count folded may. tt) step config entries it is);
  stored = λ before after it new is. law it (apart-own it.nexus first entries rise new) (conversation-as (FoldsOn before after) FoldsAny (λ unit count folded may. tt) step config entries it is);
}

pub returns-clause-served : goal.returns-clause-served
returns-clause-served c = λ rise. lawful c.args.config.now [] c.args.history.now.entries c.conversation_law.ensures (rise-behind c.args.history.now.entries rise)

pub returns-clause-stored : goal.returns-clause-stored
returns-clause-stored c = λ first rise. lawful c.args.config.now first c.args.history.now.entries c.conversation_law.ensures rise
