-- The merged history of units that went on with histories from before
use Rattle.std.specs.Prelude.{◌≡◌, ◌≢◌, ◌⊎◌, ◌<◌, ℕ, List, length, All, AllPairs, IsTrue}
use Rattle.cm_base.specs.Configuration.{Configuration}
use Rattle.cm_history.specs.declared.act.Actor.{Actor}
use Rattle.cm_history.specs.declared.act.Entry.{Entry}
use Rattle.cm_history.specs.History.{on}
use Rattle.cm_history.specs.Legal.{may_ask}
use Rattle.cm_history.specs.Limits.{within_limits}
use Rattle.cm_history.proofs.PublicLaws.{Each, In}
use Rattle.merged_history.specs.Merged.{IsSorted, RiseBehind, all_of, fronts, merged, rests}
use Rattle.merged_history.specs.Own.{by, Rises}
use Rattle.merged_history.specs.Passes.{of_unit}
use Rattle.merged_history.specs.Seats.{Joined, own_of}

-- legal but for the numbers and the stamps of one actor's entries
pub record IsOrdered (config : Configuration) (entries : List Entry) : Type 0 where
  pub configured : All (λ (e : Entry). e.unit < length config.units) entries
  pub limits : All (λ (e : Entry). IsTrue (within_limits config e.unit e.act)) entries
  pub asked : All (λ (e : Entry). IsTrue (may_ask e.unit e.actor e.act)) entries
  pub rising : AllPairs (λ (a b : Entry). a.unit ≡ b.unit → a.stamp < b.stamp) entries

-- an actor by whom none of these entries are
abbrev pub IsNewTo : List Entry → Actor → Type 0
IsNewTo entries actor = Each (λ (e : Entry). e.actor ≢ actor) entries

-- So many of the first entries of each history were there at the opening. The merged history of all is in order, and its
-- part on each unit is the unit's history; of the later entries those of each actor are what its joined passes made.
pub record IsResumed (config : Configuration) (openings : List ℕ) (histories : List (List Entry)) (joined : List Joined) : Type 0 where
  pub ordered : IsOrdered config (merged histories)
  pub sorted : IsSorted (merged histories)
  pub apart : RiseBehind (all_of (fronts openings histories)) (merged histories)
  pub parts : (unit : ℕ) → on unit (merged histories) ≡ of_unit histories unit
  pub actors : (actor : Actor) → by actor (merged (rests openings histories)) ≡ own_of actor joined
  -- the stamps of each unit rise, and are above 0
  pub rising : (unit : ℕ) → Rises 0 (of_unit histories unit)
  pub made : Each (λ (e : Entry). In e (all_of (fronts openings histories)) ⊎ In e (own_of e.actor joined)) (merged histories)
  -- an actor that had made none of the first ones
  pub new : (actor : Actor) → IsNewTo (all_of (fronts openings histories)) actor → by actor (merged histories) ≡ own_of actor joined
