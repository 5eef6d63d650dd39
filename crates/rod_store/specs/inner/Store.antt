-- A store of tokens, as contracts see it, and what it keeps
use Rattle.std.specs.Prelude.{◌≡◌, ℕ, ◌+◌, ◌≤◌, ◌^◌, ◌==◌, List, [], ◌∷◌, map, length, Bool, true, false, nat_lt, Option, Some, None, slice_get, ⊤}
use Rattle.std.specs.List.{list_any, list_all}
use Rattle.cm_history.specs.Bounds.{live_tokens}
use Rattle.rod_store.specs.declared.kept.Kept.{Kept}
use Rattle.rod_store.specs.declared.kept.TokenState.{TokenState}
use Rattle.rod_store.specs.declared.kept.TokenState.TheVariants.{Live}
use Rattle.rod_store.specs.Kept.{is_live, is_over_at, is_older, live, IsPlaced}

module _ {T : Type 0} where
  abbrev pub serials : List (Kept T) → List ℕ
  serials tokens = map (λ (t : Kept T). t.serial) tokens

  abbrev pub serial_in : Option (Kept T) → Option ℕ
  serial_in None = None
  serial_in (Some t) = Some t.serial

  -- a live token stands at the place, and none was used less lately
  pub record IsOldest (tokens : List (Kept T)) (place : ℕ) : Type 0 where
    pub token : Kept T
    pub found : slice_get tokens place ≡ Some token
    pub lives : is_live token.state ≡ true
    pub oldest : list_all (is_older token) (live tokens) ≡ true

  -- a live token was used last before the moment
  abbrev pub is_used_before : ℕ → TokenState T → Bool
  is_used_before moment (Live timeout last_use value) = nat_lt last_use moment
  is_used_before moment _ = false

  abbrev pub is_used_before_at : ℕ → Kept T → Bool
  is_used_before_at moment t = is_used_before moment t.state

  -- the serials of the live tokens, by rising serial, a moment at which no time is over, and one before which none was used last
  pub record IsStored (tokens : List (Kept T)) (own_serials : List ℕ) (own_moment own_use : ℕ) : Type 0 where
    pub placed : IsPlaced 0 tokens
    pub count : length tokens ≤ 2 ^ 48
    pub live_serials : own_serials ≡ serials (live tokens)
    pub few : length (live tokens) ≤ live_tokens
    pub next_expiry : list_any (is_over_at own_moment) tokens ≡ false
    pub least_use : list_any (is_used_before_at own_use) tokens ≡ false

-- no serial stands twice
abbrev pub AreApart : List ℕ → Type 0
AreApart [] = ⊤
AreApart (serial ∷ later) = (list_any (λ other. other == serial) later ≡ false) × AreApart later

-- room for more tokens, and for the serials of all that can be live
pub record HasRoom (count spare capacity live_capacity : ℕ) : Type 0 where
  pub tokens : count + spare ≤ capacity
  pub live_serials : live_tokens ≤ live_capacity
