-- An act that is asked of a unit of this kin after a history
use Rattle.std.specs.Prelude.{◌≡◌, ℕ, ◌+◌, ◌-◌, ◌^◌, List, max, is_some, Bool, true}
use Rattle.cm_base.specs.Units.{unit_of}
use Rattle.cm_history.specs.declared.act.Entry.{Entry}
use Rattle.cm_history.specs.declared.refused.ActRefused.{ActRefused}
use Rattle.cm_history.specs.Deeds.{Deed, last_stamp}
use Rattle.cm_history.specs.Ends.{ends_operation}
use Rattle.cm_history.specs.History.{past_of}
use Rattle.cm_history.specs.Operations.{would_serve}
use Rattle.cm_history.specs.Room.{is_full}
use Rattle.unit_gate.specs.declared.asked.AskedAct.{AskedAct}
use Rattle.unit_gate.specs.declared.kin.UnitKin.{UnitKin}

abbrev pub past : UnitKin → List Entry → List Deed
past kin history = past_of kin.config kin.unit history

-- its record, which has not the folded entries, has no room for the act
abbrev pub is_full_at : UnitKin → List Entry → ℕ → AskedAct → Bool
is_full_at kin history folded asked = is_full (unit_of kin.config kin.unit) folded (past kin history) asked.actor asked.stamp asked.act

-- the entry of the act, with the stamp behind the greater of the actor's last and the unit's last
abbrev pub entry_of : UnitKin → List Entry → AskedAct → Entry
entry_of kin history asked = record {
  stamp = max asked.stamp (last_stamp (past kin history)) + 1;
  unit = kin.unit;
  actor = asked.actor;
  seq = asked.seq;
  moment = asked.moment;
  act = asked.act;
}

-- it serves a running operation, for which an entry is kept free
abbrev pub serves_operation : UnitKin → List Entry → AskedAct → Bool
serves_operation kin history asked = is_some (would_serve (past kin history) asked.actor asked.act)

-- and ends it: an End, Abort or Close
abbrev pub ends_one : UnitKin → List Entry → AskedAct → Bool
ends_one kin history asked = ends_operation (past kin history) asked.actor asked.act

-- there is no stamp behind the greater of the two
abbrev pub IsAtLastStamp : UnitKin → List Entry → AskedAct → Type 0
IsAtLastStamp kin history asked = max asked.stamp (last_stamp (past kin history)) ≡ 2 ^ 64 - 1

-- while there are stamps, an act that serves a running operation meets no full record, and one that ends it is not refused
pub record IsServed (kin : UnitKin) (history : List Entry) (asked : AskedAct) (refused : ActRefused) : Type 0 where
  pub serving : refused ≡ ActRefused.Full → serves_operation kin history asked ≡ true → IsAtLastStamp kin history asked
  pub ending : ends_one kin history asked ≡ true → IsAtLastStamp kin history asked
