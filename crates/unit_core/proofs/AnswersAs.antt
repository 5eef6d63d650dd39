-- A unit that stands for entries answers as after them
use Rattle.std.specs.Prelude.{List}
use Rattle.cm_history.specs.declared.act.Entry.{Entry}
use Rattle.cm_history.specs.Folding.{StandsFor}
use Rattle.unit_core.specs.UnitState.{UnitState, Stands}

-- it answers so, whatever versions it keeps
abbrev pub answers_as : (s : UnitState) (entries : List Entry) → Stands s entries → StandsFor s.config s.unit s.image s.kept s.folded entries
answers_as s entries stands = record { own = stands.own; asked = stands.asked; image = stands.image; keeps = stands.keeps; few = stands.few }
