use Rattle.std.proofs.Common.{◌≡◌, ◌≤◌, take}
use Rattle.std.specs.Prelude.{count_by}
use Rattle.cm_history.specs.declared.act.Entry.{Entry}
use Rattle.cm_history.specs.Deeds.{same_actor}
use Rattle.plain_model.proofs.units.PlainUnits.made_by.Given as goal

abbrev pub invariant-loop-entry : goal.invariant-loop-entry
invariant-loop-entry l = (l.made ≡ count_by (λ (e : Entry). same_actor e.actor l.actor) (take l.entry-index l.entry-items)) × (l.made ≤ l.entry-index)
