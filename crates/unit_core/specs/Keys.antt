-- What the operations of a unit are known by
use Rattle.std.specs.Prelude.{ℕ, Bool, true, false}
use Rattle.cm_history.specs.declared.act.Actor.{Actor}
use Rattle.cm_history.specs.declared.act.Actor.TheVariants.{Nexus, Pump}
use Rattle.cm_history.specs.Operations.{Operation, Form, OfToken, OfCopy, form_of, id_of}
use Rattle.copy_jobs.specs.declared.key.Key.{Key}

-- the number of a nexus; a pump begins no operation
abbrev pub number_of : Actor → ℕ
number_of (Nexus nexus) = nexus
number_of (Pump unit) = unit

abbrev pub is_copy : Form → Bool
is_copy OfToken = false
is_copy OfCopy = true

abbrev pub key_of : Actor → Form → ℕ → Key
key_of actor form id = record { actor = number_of actor; copy = is_copy form; id = id }

-- the key of an operation
abbrev pub key_made : Operation → Key
key_made o = key_of o.made.entry.actor (form_of o.made.entry.act) (id_of o.made.entry.act)
