use Rattle.std.proofs.Common.{sym, ◌∙◌}
use Rattle.rod_store.specs.declared.kept.TokenState.TheVariants.{Deleted}
use Rattle.rod_store.proofs.Stored.{end-none}
use Rattle.rod_store.proofs.store.RodStore.delete.Goals as goal

pub returns-else-is_live-clause-tokens : goal.returns-else-is_live-clause-tokens
returns-else-is_live-clause-tokens g c = sym (end-none c.args.self.now.tokens c.is_live.ensures.placed Deleted c.args.serial (sym c.is_live.ensures.live ∙ c.if-is_live.false))
