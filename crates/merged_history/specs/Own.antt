-- The entries that one pass has made
use Rattle.std.specs.Prelude.{◌≡◌, ℕ, suc, ◌<◌, ⊤, List, [], ◌∷◌, filter, length, true}
use Rattle.cm_base.specs.Configuration.{Configuration}
use Rattle.cm_history.specs.declared.act.Actor.{Actor}
use Rattle.cm_history.specs.declared.act.Entry.{Entry}
use Rattle.cm_history.specs.Deeds.{same_actor}
use Rattle.cm_history.specs.Limits.{within_limits}
use Rattle.cm_history.specs.Legal.{may_ask}
use Rattle.cm_history.proofs.PublicLaws.{Each}

-- the entries of an actor, in order
abbrev pub by : Actor → List Entry → List Entry
by actor entries = filter (λ (e : Entry). same_actor e.actor actor) entries

-- stamps rise, and all are above `low`
abbrev pub Rises : ℕ → List Entry → Type 0
Rises low [] = ⊤
Rises low (e ∷ es) = (low < e.stamp) × Rises e.stamp es

-- the seqs are `from`, `from + 1`, and so on
abbrev pub IsNumbered : ℕ → List Entry → Type 0
IsNumbered from [] = ⊤
IsNumbered from (e ∷ es) = (e.seq ≡ from) × IsNumbered (suc from) es

-- each stamp of the first list is below each of the second
abbrev pub IsBelow : List Entry → List Entry → Type 0
IsBelow xs ys = Each (λ (x : Entry). Each (λ (y : Entry). x.stamp < y.stamp) ys) xs

-- the act might be asked of the unit by this actor
pub record IsAsked (config : Configuration) (e : Entry) : Type 0 where
  pub configured : e.unit < length config.units
  pub limits : within_limits config e.unit e.act ≡ true
  pub asked : may_ask e.unit e.actor e.act ≡ true

-- these may be the entries of one actor from its `from`-th on, in order
pub record IsOwn (config : Configuration) (actor : Actor) (from : ℕ) (own : List Entry) : Type 0 where
  pub mine : Each (λ (e : Entry). e.actor ≡ actor) own
  pub asked : Each (IsAsked config) own
  pub rising : Rises 0 own
  pub numbered : IsNumbered from own
