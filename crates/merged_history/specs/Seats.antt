-- What contracts see of the register's seats
use Rattle.std.specs.Prelude.{◌≡◌, List, [], ◌∷◌, ◌++◌, if◌then◌else◌}
use Rattle.atomic_table.specs.Seated.{TableId}
use Rattle.cm_history.specs.declared.act.Actor.{Actor}
use Rattle.cm_history.specs.declared.act.Entry.{Entry}
use Rattle.cm_history.specs.Deeds.{same_actor}
use Rattle.merged_history.specs.declared.known.Ticket.{Ticket}

-- a pass that was joined, with what it has made
pub record Joined : Type 0 where
  pub actor : Actor
  pub own : List Entry

-- what the joined passes of an actor have made, one after the other in the order of joining
abbrev pub own_of : Actor → List Joined → List Entry
own_of actor [] = []
own_of actor (j ∷ js) = (if same_actor j.actor actor then j.own else []) ++ own_of actor js

-- the ticket of a new pass of an actor
abbrev pub ticket_of : Actor → List Joined → Ticket
ticket_of actor joined = record { actor = actor; before = own_of actor joined }

pub record RootState : Type 0 where
  pub register : TableId
  -- the passes that are made and not joined, in the order of making
  pub out : List Ticket
  -- those that were joined, in the order of joining
  pub joined : List Joined

pub record PassState : Type 0 where
  pub register : TableId
  pub ticket : Ticket

-- the pass of this ticket was out; now it is joined, and has made `own`
pub record IsJoined (before after : RootState) (ticket : Ticket) (own : List Entry) : Type 0 where
  pub front : List Ticket
  pub back : List Ticket
  pub was_out : before.out ≡ front ++ ticket ∷ back
  pub root : after ≡ record before { out = front ++ back; joined = before.joined ++ record { actor = ticket.actor; own = own } ∷ [] }
