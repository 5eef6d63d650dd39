-- What stays true of passes and of the root, from call to call
use Rattle.std.specs.Prelude.{◌≡◌, ℕ, suc, ◌≤◌, ⊤, List, [], ◌∷◌, length}
use mathlib.Core.List.{IsPrefix}
use Rattle.cm_base.specs.Configuration.{Configuration}
use Rattle.cm_history.specs.declared.act.Actor.{Actor}
use Rattle.cm_history.specs.declared.act.Actor.TheVariants.{Nexus, Pump}
use Rattle.cm_history.specs.declared.act.Entry.{Entry}
use Rattle.merged_history.specs.Merged.{merged}
use Rattle.cm_history.proofs.PublicLaws.{In, Each}
use Rattle.merged_history.specs.Own.{Rises, IsBelow, IsAsked, IsOwn}
use Rattle.merged_history.specs.declared.known.Ticket.{Ticket}
use Rattle.merged_history.specs.Seats.{Joined, own_of}
use Rattle.merged_history.specs.Passes.{AreJoined, of_unit, AreFrom}

abbrev pub IsNew : Actor → List Entry → Type 0
IsNew (Nexus n) before = before ≡ []
IsNew (Pump unit) before = ⊤

-- the entries stand in what is seen of their units
abbrev pub AreSeen : List (List Entry) → List Entry → Type 0
AreSeen seen entries = Each (λ (e : Entry). In e (of_unit seen e.unit)) entries

-- a history of a unit: its own entries, whose stamps rise
pub record IsHistory (unit : ℕ) (entries : List Entry) : Type 0 where
  pub own : Each (λ (e : Entry). e.unit ≡ unit) entries
  pub rising : Rises 0 entries

-- A pass has made `owns`, for each unit a list, and has seen `seen` of each unit. Its own list is `merged owns`.
pub record IsPass (config : Configuration) (ticket : Ticket) (owns seen : List (List Entry)) : Type 0 where
  pub parts : AreFrom 0 owns
  pub units : length owns ≡ length seen
  pub own : IsOwn config ticket.actor (length ticket.before) (merged owns)
  pub stands : AreSeen seen (merged owns)
  -- it goes on where the earlier passes of its actor ended
  pub earlier : AreSeen seen ticket.before
  pub mine : Each (λ (e : Entry). e.actor ≡ ticket.actor) ticket.before
  pub asked : Each (IsAsked config) ticket.before
  pub new : IsNew ticket.actor ticket.before
  pub below : IsBelow ticket.before (merged owns)

-- each list of the first goes on in the second
abbrev pub AreLonger : List (List Entry) → List (List Entry) → Type 0
AreLonger seen after = (unit : ℕ) → IsPrefix (of_unit seen unit) (of_unit after unit)

-- no two tickets are of one actor
abbrev pub AreApart : List Ticket → Type 0
AreApart [] = ⊤
AreApart (t ∷ ts) = Each (λ (other : Ticket). t.actor ≡ other.actor → ⊥) ts × AreApart ts

-- the nexuses of `made` and above have made nothing, and have no pass
pub record AreFree (made : ℕ) (out : List Ticket) (joined : List Joined) : Type 0 where
  pub no_pass : (n : ℕ) → made ≤ n → Each (λ (t : Ticket). t.actor ≡ Nexus n → ⊥) out
  pub no_entry : (n : ℕ) → made ≤ n → own_of (Nexus n) joined ≡ []

-- The root has seen `seen`; `out` are the passes that are made and not joined, `joined` those that are joined, and
-- `kept` is for each unit what the seats have made that are joined there
pub record IsRoot (config : Configuration) (made : ℕ) (seen kept : List (List Entry)) (out : List Ticket) (joined : List Joined) : Type 0 where
  pub passes : AreJoined config joined
  pub stands : (actor : Actor) → AreSeen seen (own_of actor joined)
  pub goes_on : Each (λ (t : Ticket). t.before ≡ own_of t.actor joined) out
  pub apart : AreApart out
  pub free : AreFree made out joined
  pub covered : (unit : ℕ) → Each (λ (e : Entry). In e (own_of e.actor joined)) (of_unit kept unit)
  pub held : (actor : Actor) → AreSeen kept (own_of actor joined)

-- ---- a pass is made

abbrev pub made_after : Actor → ℕ → ℕ
made_after (Nexus n) made = suc made
made_after (Pump u) made = made

-- an actor that may have a new pass: the next nexus, or a pump that has no pass
abbrev pub MayPass : Actor → ℕ → List Ticket → Type 0
MayPass (Nexus n) made out = n ≡ made
MayPass (Pump u) made out = Each (λ (t : Ticket). t.actor ≡ Pump u → ⊥) out
