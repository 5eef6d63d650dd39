-- The root of a world, as contracts see it
use Rattle.std.specs.Prelude.{◌≡◌, ℕ, List, [], ◌∷◌, ◌++◌, length, map, slice_index_or, false}
use Rattle.atomic_table.specs.Seated.{TableId}
use Rattle.cm_base.specs.Configuration.{Configuration}
use Rattle.cm_history.specs.declared.act.Actor.{Actor}
use Rattle.cm_history.specs.declared.act.Entry.{Entry}
use Rattle.merged_history.specs.PassRules.{AreLonger, made_after}
use Rattle.merged_history.specs.declared.known.Ticket.{Ticket}
use Rattle.merged_history.specs.Seats.{Joined, ticket_of}
use Rattle.turn_gate.specs.Marks.{AtMost}
use Rattle.nexus.specs.Worlds.{UnitGate, WorldView, PassView}

pub record RootView : Type 0 where
  pub config : Configuration
  pub gates : List UnitGate
  pub register : TableId
  -- the number of the next nexus that gets a pass
  pub made : ℕ
  -- the passes that are made and not joined, in the order of making
  pub out : List Ticket
  -- those that were joined, in the order of joining
  pub joined : List Joined
  -- for each unit how many entries its history had at the opening of the world
  pub openings : List ℕ
  -- for each unit a beginning of its history
  pub seen : List (List Entry)
  -- for each unit how many records had failed, how many entries were recorded and dropped, and how often they were not for
  -- want of memory, as far as the root knows
  pub marks : List (List ℕ)

-- the root is the one of this world
pub record IsRootOf (world : WorldView) (root : RootView) : Type 0 where
  pub config : root.config ≡ world.config
  pub gates : root.gates ≡ world.gates
  pub register : root.register ≡ world.register

-- no number of the first lists is above that of the second
abbrev pub AreAtMost : List (List ℕ) → List (List ℕ) → Type 0
AreAtMost before after = (unit : ℕ) → AtMost (slice_index_or before unit []) (slice_index_or after unit [])

-- a pass of the actor was made, which has seen what the root has
pub record WasMade (before after : RootView) (pass : PassView) (actor : Actor) : Type 0 where
  pub root : after ≡ record before {
    made = made_after actor before.made;
    out = before.out ++ ticket_of actor before.joined ∷ [];
  }
  pub new : pass ≡ record {
    config = before.config;
    gates = before.gates;
    register = before.register;
    ticket = ticket_of actor before.joined;
    own = [];
    seen = before.seen;
    holds = map (λ (g : UnitGate). false) before.gates;
    misses = map (λ (g : UnitGate). 0) before.gates;
    marks = before.marks;
  }

-- the pass was out and is joined: the root has seen what the pass had, of as many units as before
pub record WasTaken (before after : RootView) (pass : PassView) : Type 0 where
  pub front : List Ticket
  pub back : List Ticket
  pub was_out : before.out ≡ front ++ pass.ticket ∷ back
  pub units : length after.seen ≡ length before.seen
  pub longer : AreLonger before.seen after.seen
  pub longer_pass : AreLonger pass.seen after.seen
  pub marks : AreAtMost before.marks after.marks
  pub marks_pass : AreAtMost pass.marks after.marks
  pub root : after ≡ record before {
    out = front ++ back;
    joined = before.joined ++ record { actor = pass.ticket.actor; own = pass.own } ∷ [];
    seen = after.seen;
    marks = after.marks;
  }
