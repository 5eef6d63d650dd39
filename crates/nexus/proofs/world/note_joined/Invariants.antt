use Rattle.merged_history.specs.Merged.{merged}
use Rattle.nexus.specs.inner.Keeping.{owns}
use Rattle.nexus.proofs.world.note_joined.Given as goal

abbrev pub ghost-join : goal.ghost-join
ghost-join g a = merged (owns a.made.now.items)
