-- The rule of the register's table: the root's seat comes first, and each other seat has its pass or is spent
use Rattle.std.specs.Prelude.{◌≡◌, ℕ, suc, Bool, ◌==◌, List, [], ◌∷◌, ◌++◌, length, slice_get, Some, ⊤, if◌then◌else◌}
use Rattle.std.specs.List.{list_any}
use mathlib.Core.Option.{some}
use lib.ListN.{get_elem?}
use Rattle.atomic_table.specs.Table.{State, Me, Step}
use Rattle.atomic_table.specs.Seated.{TableId}
use Rattle.cm_history.specs.declared.act.Actor.{Actor}
use Rattle.cm_history.specs.declared.act.Actor.TheVariants.{Nexus}
use Rattle.cm_history.specs.declared.act.Entry.{Entry}
use Rattle.merged_history.specs.declared.known.Ticket.{Ticket}
use Rattle.merged_history.specs.declared.known.JoinedPass.{JoinedPass}
use Rattle.merged_history.specs.declared.known.Known.{Known}
use Rattle.merged_history.specs.declared.known.Known.TheVariants.{Root, Pass, Spent}
use Rattle.merged_history.specs.Seats.{Joined, own_of, ticket_of, RootState, PassState}

abbrev pub IsTable : TableId → Type 0
IsTable t = (t.words ≡ 1) × (t.slots ≡ 0)

-- Below, the latest pass that was joined comes first in `joined`.

-- the passes that were joined, in the order of joining
abbrev pub joined_of : List JoinedPass → List Joined
joined_of [] = []
joined_of (p ∷ ps) = joined_of ps ++ record { actor = p.ticket.actor; own = p.own } ∷ []

abbrev pub ticket_by : Actor → List JoinedPass → Ticket
ticket_by actor joined = ticket_of actor (joined_of joined)

-- the number is not among those that were joined
abbrev pub IsOut : ℕ → List JoinedPass → Type 0
IsOut number [] = ⊤
IsOut number (p ∷ ps) = (p.number ≡ number → ⊥) × IsOut number ps

-- each pass that was joined was made as its ticket says, and none was joined twice
abbrev pub AreJoined : List Ticket → List JoinedPass → Type 0
AreJoined made [] = ⊤
AreJoined made (p ∷ ps) = (slice_get made p.number ≡ Some p.ticket) × IsOut p.number ps × AreJoined made ps

-- what the seats behind the root's know: each has the pass of its place, or is spent
pub record ArePasses (made : List Ticket) (joined : List JoinedPass) (rest : List Known) : Type 0 where
  pub size : length rest ≡ length made
  pub passes : (i n : ℕ) (t : Ticket) → get_elem? rest i ≡ some (Pass n t) → (n ≡ i) × (slice_get made i ≡ Some t) × IsOut i joined
  pub no_root : (i : ℕ) (m : List Ticket) (j : List JoinedPass) → get_elem? rest i ≡ some (Root m j) → ⊥

pub record IsKept (s : State ℕ Known) : Type 0 where
  pub made : List Ticket
  pub joined : List JoinedPass
  pub rest : List Known
  pub views : s.views ≡ Root made joined ∷ rest
  pub passes : ArePasses made joined rest
  pub are : AreJoined made joined

-- ---- what the steps make of the seats

abbrev pub root_after : Actor → Known → Known
root_after actor (Root made joined) = Root (made ++ ticket_by actor joined ∷ []) joined
root_after actor other = other

abbrev pub pass_by : Actor → Known → Known
pass_by actor (Root made joined) = Pass (length made) (ticket_by actor joined)
pass_by actor other = Spent

abbrev pub with_joined : List Entry → Known → Known → Known
with_joined own (Root made joined) (Pass n t) = Root made (record { number = n; ticket = t; own = own } ∷ joined)
with_joined own other pass = other

-- what the root learns by a load
abbrev pub IsRight : Known → Type 0
IsRight (Root made joined) = AreJoined made joined
IsRight other = ⊤

abbrev pub Loads : Step ℕ → Me ℕ Known → ℕ → Me ℕ Known → Type 0
Loads s me found after = (after ≡ me) × IsRight me.0

-- ---- what contracts see of the seats

abbrev pub made_in : Known → List Ticket
made_in (Root made joined) = made
made_in other = []

abbrev pub joined_in : Known → List JoinedPass
joined_in (Root made joined) = joined
joined_in other = []

abbrev pub number_in : Known → ℕ
number_in (Pass n t) = n
number_in other = 0

abbrev pub ticket_in : Known → Ticket
ticket_in (Pass n t) = t
ticket_in other = record { actor = Nexus 0; before = [] }

-- the seat is the root's
abbrev pub IsRoot : Me ℕ Known → Type 0
IsRoot me = me ≡ (Root (made_in me.0) (joined_in me.0), [])

-- the seat has a pass
abbrev pub IsPass : Me ℕ Known → Type 0
IsPass me = me ≡ (Pass (number_in me.0) (ticket_in me.0), [])

-- the pass of a seat as it is joined
abbrev pub joined_as : Known → List Entry → JoinedPass
joined_as pass own = record { number = number_in pass; ticket = ticket_in pass; own = own }

abbrev pub is_joined : ℕ → List JoinedPass → Bool
is_joined number joined = list_any (λ (p : JoinedPass). p.number == number) joined

-- the passes that are out, of those from a number on
abbrev pub left_of : ℕ → List Ticket → List JoinedPass → List Ticket
left_of from [] joined = []
left_of from (t ∷ ts) joined = (if is_joined from joined then [] else t ∷ []) ++ left_of (suc from) ts joined

abbrev pub root_state : TableId → Known → RootState
root_state table v = record { register = table; out = left_of 0 (made_in v) (joined_in v); joined = joined_of (joined_in v) }

abbrev pub pass_state : TableId → Known → PassState
pass_state table v = record { register = table; ticket = ticket_in v }

pub record IsRootSeat (me : Me ℕ Known) : Type 0 where
  pub is : IsRoot me
  pub are : AreJoined (made_in me.0) (joined_in me.0)
