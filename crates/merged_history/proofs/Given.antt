-- What the lemmas on histories and on passes are given
use Rattle.std.specs.Prelude.{◌≡◌, ℕ, ◌+◌, ◌<◌, List, length}
use Rattle.cm_base.specs.Configuration.{Configuration}
use Rattle.cm_history.specs.declared.act.Actor.{Actor}
use Rattle.cm_history.specs.declared.act.Entry.{Entry}
use Rattle.cm_history.proofs.PublicLaws.{In, Each}
use Rattle.merged_history.specs.declared.known.Ticket.{Ticket}
use Rattle.merged_history.specs.Seats.{Joined, own_of}
use Rattle.merged_history.specs.Own.{Rises, IsAsked}
use Rattle.merged_history.specs.Passes.{of_unit}

-- the histories of the units, in order of the units: each has its own entries, whose stamps rise
pub record AreHistories (config : Configuration) (histories : List (List Entry)) : Type 0 where
  pub units : length histories ≡ length config.units
  pub own : (unit : ℕ) → Each (λ (e : Entry). e.unit ≡ unit) (of_unit histories unit)
  pub rising : (unit : ℕ) → Rises 0 (of_unit histories unit)

-- each entry that a joined pass made stands in its unit's history, and each entry there was made by a joined pass
pub record AreMadeBy (histories : List (List Entry)) (joined : List Joined) : Type 0 where
  pub stands : (actor : Actor) → Each (λ (e : Entry). In e (of_unit histories e.unit)) (own_of actor joined)
  pub made : (unit : ℕ) → Each (λ (e : Entry). In e (own_of e.actor joined)) (of_unit histories unit)

-- an entry that a pass may make on a unit of this history
pub record MayMake (config : Configuration) (ticket : Ticket) (own : List Entry) (unit : ℕ) (history : List Entry) (e : Entry) : Type 0 where
  pub unit_is : e.unit ≡ unit
  pub actor_is : e.actor ≡ ticket.actor
  pub seq_is : e.seq ≡ length ticket.before + length own
  pub asked : IsAsked config e
  -- its stamp is above the unit's last and the pass's last
  pub above : Each (λ (x : Entry). x.stamp < e.stamp) history
  pub later : Each (λ (x : Entry). x.stamp < e.stamp) own
  pub some : 0 < e.stamp
