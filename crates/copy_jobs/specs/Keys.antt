-- What an operation is known by
use Rattle.std.specs.Prelude.{Bool, not, ◌==◌, ◌&&◌, true, false}
use Rattle.copy_jobs.specs.declared.key.Key.{Key}

abbrev pub same_kind : Bool → Bool → Bool
same_kind true other = other
same_kind false other = not other

abbrev pub same_key : Key → Key → Bool
same_key a b = (a.actor == b.actor) && same_kind a.copy b.copy && (a.id == b.id)
