-- The operation that its initiator has still to end
use Rattle.std.specs.Prelude.{List, find, Option, Bool, not}
use Rattle.std.specs.Option.{option_map}
use Rattle.cm_history.specs.declared.act.Entry.{Entry}
use Rattle.cm_history.specs.Deeds.{Deed}
use Rattle.cm_history.specs.Operations.{Operation, is_background, running}
use Rattle.copy_jobs.specs.declared.key.Key.{Key}
use Rattle.unit_core.specs.Acting.{past}
use Rattle.unit_core.specs.Keys.{key_made}
use Rattle.unit_core.specs.UnitState.{UnitState}

-- no pump writes it: its own initiator writes it in the foreground, or carries it out as a copy
abbrev pub is_by_initiator : Operation → Bool
is_by_initiator o = not (is_background o.made.entry.act)

-- of the running operations that no pump writes the one that was made earliest
abbrev pub unended : List Deed → Option Operation
unended past = find is_by_initiator (running past)

-- its key, after these entries
abbrev pub unended_at : UnitState → List Entry → Option Key
unended_at s entries = option_map key_made (unended (past s entries))
