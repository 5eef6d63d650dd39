-- How a unit goes on with a history that was recorded before: it is replayed, and the operations are ended whose
-- initiators are gone
use Rattle.std.specs.Prelude.{ℕ, ◌+◌, ◌-◌, ◌^◌, List, [], ◌∷◌, ◌++◌, length, filter, Option, Some, None, Bool, false, ◌==◌, ◌||◌, nat_lt, if◌then◌else◌}
use Rattle.cm_base.specs.Configuration.{Configuration}
use Rattle.cm_base.specs.Units.{unit_of}
use Rattle.cm_history.specs.declared.act.Act.{Act}
use Rattle.cm_history.specs.declared.act.Actor.{Actor}
use Rattle.cm_history.specs.declared.act.Actor.TheVariants.{Nexus, Pump}
use Rattle.cm_history.specs.declared.act.CopyEnd.{CopyEnd}
use Rattle.cm_history.specs.declared.act.CopyState.{CopyState}
use Rattle.cm_history.specs.declared.act.Entry.{Entry}
use Rattle.cm_history.specs.Deeds.{Deed, moment, last_stamp}
use Rattle.cm_history.specs.History.{past_of}
use Rattle.cm_history.specs.Operations.{Operation, Form, OfToken, OfCopy, form_of, id_of, running}
use Rattle.cm_history.specs.Room.{is_full}
use Rattle.cm_history.specs.Members.{Each}
use Rattle.merged_history.specs.Own.{IsAsked}
use Rattle.merged_history.specs.PassRules.{IsHistory}
use Rattle.unit_core.specs.Unended.{is_by_initiator}

-- a history that a unit may go on with: its own entries, with rising stamps, each of which might be asked of it
pub record IsGiven (config : Configuration) (unit : ℕ) (history : List Entry) : Type 0 where
  pub is_history : IsHistory unit history
  pub asked : Each (IsAsked config) history

-- ---- which history is bad

-- the greatest number that a nexus of a history may have: 257 more are left behind it
abbrev pub last_number : ℕ
last_number = 4_294_967_038

abbrev pub has_late_number : Actor → Bool
has_late_number (Nexus n) = nat_lt last_number n
has_late_number (Pump unit) = false

-- the entry is refused behind these: its nexus has too great a number, or the record has no room for it, though all of
-- these were recorded and dropped
abbrev pub is_bad_behind : Configuration → ℕ → List Entry → Entry → Bool
is_bad_behind config unit before e =
    has_late_number e.actor || is_full (unit_of config unit) (length before) (past_of config unit before) e.actor 0 e.act

-- the place of the first that is, of the entries behind these
abbrev pub first_bad : Configuration → ℕ → List Entry → List Entry → Option ℕ
first_bad config unit before [] = None
first_bad config unit before (e ∷ es) = if is_bad_behind config unit before e then Some (length before) else first_bad config unit (before ++ (e ∷ [])) es

-- the place of the entry for which the history of a unit is bad, or `None` where it is not
abbrev pub bad_entry : Configuration → ℕ → List Entry → Option ℕ
bad_entry config unit history = first_bad config unit [] history

-- ---- the entries with which the unit begins

-- the operations that their initiators have still to end, in the order in which they were made
abbrev pub all_unended : List Deed → List Operation
all_unended past = filter is_by_initiator (running past)

-- how a copy ends whose initiator is gone
abbrev pub terminated_copy : CopyEnd
terminated_copy = record { state = CopyState.Terminated; segments = 0; bytes = 0 }

-- an End of a token operation, a Close of a copy
abbrev pub ending_act : Form → ℕ → Act
ending_act OfToken id = Act.End id
ending_act OfCopy id = Act.Close id terminated_copy

-- the entry that ends an operation: by its own actor, with seq 0
abbrev pub ending : ℕ → ℕ → ℕ → Operation → Entry
ending unit at stamp o = record {
  stamp = stamp;
  unit = unit;
  actor = o.made.entry.actor;
  seq = 0;
  moment = at;
  act = ending_act (form_of o.made.entry.act) (id_of o.made.entry.act);
}

-- one for each, behind this stamp, as long as there are stamps
abbrev pub endings : ℕ → ℕ → ℕ → List Operation → List Entry
endings unit at last [] = []
endings unit at last (o ∷ os) = if last == 2 ^ 64 - 1 then [] else ending unit at (last + 1) o ∷ endings unit at (last + 1) os

-- a history, and the ends of the operations that their initiators had still to end, at the unit's moment
abbrev pub opening_entries : Configuration → ℕ → List Entry → List Entry
opening_entries config unit history =
    history ++ endings unit (moment (past_of config unit history)) (last_stamp (past_of config unit history)) (all_unended (past_of config unit history))
