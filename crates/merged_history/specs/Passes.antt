-- The passes that were joined, and the histories in which their entries stand
use Rattle.std.specs.Prelude.{◌≡◌, ℕ, suc, ⊤, List, [], ◌∷◌, slice_index_or}
use Rattle.cm_base.specs.Configuration.{Configuration}
use Rattle.cm_history.specs.declared.act.Actor.{Actor}
use Rattle.cm_history.specs.declared.act.Entry.{Entry}
use Rattle.cm_history.specs.History.{on}
use Rattle.cm_history.specs.Legal.{IsLegal}
use Rattle.cm_history.proofs.PublicLaws.{Each}
use Rattle.merged_history.specs.Seats.{Joined, own_of}
use Rattle.merged_history.specs.Merged.{IsSorted, RiseByActor}
use Rattle.merged_history.specs.Own.{by, Rises, IsOwn}

-- the joined passes of each actor go on where the earlier ones ended
abbrev pub AreJoined : Configuration → List Joined → Type 0
AreJoined config joined = (actor : Actor) → IsOwn config actor 0 (own_of actor joined)

-- the history of a unit
abbrev pub of_unit : List (List Entry) → ℕ → List Entry
of_unit histories unit = slice_index_or histories unit []

-- the lists of the units from one on: each has its own unit's entries, whose stamps rise
abbrev pub AreFrom : ℕ → List (List Entry) → Type 0
AreFrom unit [] = ⊤
AreFrom unit (h ∷ hs) = Each (λ (e : Entry). e.unit ≡ unit) h × Rises 0 h × AreFrom (suc unit) hs

-- the merged history is legal and in order; its part on each unit is the unit's history; the entries of each actor are what its joined passes made
pub record IsWhole (config : Configuration) (histories : List (List Entry)) (joined : List Joined) (merged : List Entry) : Type 0 where
  pub legal : IsLegal config merged
  pub sorted : IsSorted merged
  pub apart : RiseByActor merged
  pub parts : (unit : ℕ) → on unit merged ≡ of_unit histories unit
  pub actors : (actor : Actor) → by actor merged ≡ own_of actor joined
