-- The tokens that a unit made, each with a value until it ends
use Rattle.std.specs.Prelude.{◌≡◌, ℕ, suc, ◌+◌, List, [], ◌∷◌, ◌++◌, map, filter, length, Option, Some, None, slice_get, Bool, true, false, ◌==◌, ◌&&◌, ◌||◌, nat_lt, nat_le, if◌then◌else◌, ⊤}
use Rattle.std.specs.List.{list_all}
use Rattle.cm_history.specs.Bounds.{live_tokens}
use Rattle.rod_store.specs.declared.kept.Kept.{Kept}
use Rattle.rod_store.specs.declared.kept.TokenState.{TokenState}
use Rattle.rod_store.specs.declared.kept.TokenState.TheVariants.{Live, Expired, Evicted, Deleted}

module _ {T : Type 0} where
  abbrev pub is_live : TokenState T → Bool
  is_live (Live timeout last_use value) = true
  is_live _ = false

  -- its time is over at this moment
  abbrev pub is_over : ℕ → TokenState T → Bool
  is_over now (Live timeout last_use value) = nat_lt (last_use + timeout) now
  is_over now _ = false

  -- when a live one was used last
  abbrev pub used_last : TokenState T → ℕ
  used_last (Live timeout last_use value) = last_use
  used_last _ = 0

  -- what a live one stands for
  abbrev pub value_of : TokenState T → Option T
  value_of (Live timeout last_use value) = Some value
  value_of _ = None

  abbrev pub live : List (Kept T) → List (Kept T)
  live tokens = filter (λ (t : Kept T). is_live t.state) tokens

  -- each token stands at the place of its serial, where the first stands at this one
  abbrev pub IsPlaced : ℕ → List (Kept T) → Type 0
  IsPlaced place [] = ⊤
  IsPlaced place (t ∷ tokens) = (t.serial ≡ place) × IsPlaced (suc place) tokens

  -- the value of the token of a serial, while that is live
  abbrev pub value_in : Option (Kept T) → Option T
  value_in None = None
  value_in (Some t) = value_of t.state

  abbrev pub value_at : ℕ → List (Kept T) → Option T
  value_at serial tokens = value_in (slice_get tokens serial)

  -- the first token for which the test holds
  abbrev pub first : (Kept T → Bool) → List (Kept T) → Option (Kept T)
  first test [] = None
  first test (t ∷ tokens) = if test t then Some t else first test tokens

  -- and its value
  abbrev pub first_value : (Kept T → Bool) → List (Kept T) → Option T
  first_value test tokens = value_in (first test tokens)

  -- ---- tokens whose time is over

  abbrev pub is_over_at : ℕ → Kept T → Bool
  is_over_at now t = is_over now t.state

  abbrev pub expire_at : ℕ → Kept T → Kept T
  expire_at now t = if is_over now t.state then record t { state = Expired } else t

  -- all that is over at the moment has expired
  abbrev pub expired : ℕ → List (Kept T) → List (Kept T)
  expired now tokens = map (expire_at now) tokens

  -- the first of those that are over has expired
  abbrev pub expire_first : ℕ → List (Kept T) → List (Kept T)
  expire_first now [] = []
  expire_first now (t ∷ tokens) = if is_over now t.state then expire_at now t ∷ tokens else t ∷ expire_first now tokens

  -- ---- room for one more

  -- it was used before the other, or at the same moment and made before it; both are live
  abbrev pub is_older : Kept T → Kept T → Bool
  is_older t other =
      nat_lt (used_last t.state) (used_last other.state)
      || (used_last t.state == used_last other.state && nat_le t.serial other.serial)

  -- 64 tokens are live, and this one was used least lately
  abbrev pub gives_way : List (Kept T) → Kept T → Bool
  gives_way tokens t = is_live t.state && ((length (live tokens) == live_tokens) && list_all (is_older t) (live tokens))

  abbrev pub evict_if : List (Kept T) → Kept T → Kept T
  evict_if tokens t = if gives_way tokens t then record t { state = Evicted } else t

  -- the value of the token that makes room, if one has to
  abbrev pub evicted_value : List (Kept T) → Option T
  evicted_value tokens = first_value (gives_way tokens) tokens

  -- one more token, made at a moment
  abbrev pub populated : List (Kept T) → ℕ → ℕ → ℕ → T → List (Kept T)
  populated tokens moment timeout blocks value =
      map (evict_if tokens) tokens
      ++ record { serial = length tokens; blocks = blocks; state = Live timeout moment value } ∷ []

  -- ---- what is done to the token of a serial

  -- a live token of this serial ends so
  abbrev pub end_at : TokenState T → ℕ → Kept T → Kept T
  end_at ending serial t = if is_live t.state && (t.serial == serial) then record t { state = ending } else t

  abbrev pub deleted : ℕ → List (Kept T) → List (Kept T)
  deleted serial tokens = map (end_at Deleted serial) tokens

  abbrev pub with_use : ℕ → TokenState T → TokenState T
  with_use moment (Live timeout last_use value) = Live timeout moment value
  with_use moment other = other

  abbrev pub use_at : ℕ → ℕ → Kept T → Kept T
  use_at serial moment t = if is_live t.state && (t.serial == serial) then record t { state = with_use moment t.state } else t

  -- the token was used at the moment
  abbrev pub used : ℕ → ℕ → List (Kept T) → List (Kept T)
  used serial moment tokens = map (use_at serial moment) tokens

-- ---- tokens with other values

module _ {K T : Type 0} (f : K → T) where
  abbrev pub state_with : TokenState K → TokenState T
  state_with (Live timeout last_use value) = Live timeout last_use (f value)
  state_with Expired = Expired
  state_with Evicted = Evicted
  state_with Deleted = Deleted

  abbrev pub kept_with : Kept K → Kept T
  kept_with t = record { serial = t.serial; blocks = t.blocks; state = state_with t.state }
