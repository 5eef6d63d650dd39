-- Tokens with other values: what is done to them does not depend on these
use Rattle.std.proofs.Common.{◌≡◌, ℕ, zero, suc, ◌+◌, List, [], ◌∷◌, ◌++◌, length, refl, ap, sym, ◌∙◌, true, false, Bool}
use Rattle.std.specs.Prelude.{Option, Some, None, IsSome, Result, Ok, Err, ◌==◌, ◌&&◌, not, map, slice_get, nat_lt, if◌then◌else◌}
use Rattle.std.specs.Str.{bytes_eq}
use Rattle.std.specs.Option.{option_map}
use Rattle.std.specs.List.{list_all}
use Rattle.std.proofs.lemmas.List.{length-map, map-append}
use Rattle.scsi_sense.specs.SenseCode.{SenseCode}
use Rattle.scsi_sense.specs.Codes.{remote_token_usage_not_supported, token_corrupt, token_expired}
use Rattle.cm_base.specs.Configuration.{Configuration}
use Rattle.cm_base.specs.Units.{unit_of}
use Rattle.rod_token.specs.TokenText.{token_text, serial_of}
use Rattle.cm_history.specs.Bounds.{live_tokens}
use Rattle.cm_history.specs.Redeeming.{are_alike}
use Rattle.rod_store.specs.declared.kept.Kept.{Kept}
use Rattle.rod_store.specs.declared.kept.TokenState.{TokenState}
use Rattle.rod_store.specs.declared.kept.TokenState.TheVariants.{Live, Expired, Evicted, Deleted}
use Rattle.rod_store.specs.Kept.{is_live, is_over, used_last, value_of, live, value_in, value_at, expire_at, expired, is_older, gives_way, evict_if, populated, end_at, deleted, with_use, use_at, used, state_with, kept_with}
use Rattle.rod_store.specs.Judging.{judged, judged_token, judged_state}

module _ {K T : Type 0} (f : K → T) where
  -- ---- one token

  live-with : (s : TokenState K) → is_live (state_with f s) ≡ is_live s
  live-with (Live timeout last_use value) = refl
  live-with Expired = refl
  live-with Evicted = refl
  live-with Deleted = refl

  over-with : (moment : ℕ) (s : TokenState K) → is_over moment (state_with f s) ≡ is_over moment s
  over-with moment (Live timeout last_use value) = refl
  over-with moment Expired = refl
  over-with moment Evicted = refl
  over-with moment Deleted = refl

  last-with : (s : TokenState K) → used_last (state_with f s) ≡ used_last s
  last-with (Live timeout last_use value) = refl
  last-with Expired = refl
  last-with Evicted = refl
  last-with Deleted = refl

  of-with : (s : TokenState K) → value_of (state_with f s) ≡ option_map f (value_of s)
  of-with (Live timeout last_use value) = refl
  of-with Expired = refl
  of-with Evicted = refl
  of-with Deleted = refl

  use-with : (moment : ℕ) (s : TokenState K) → with_use moment (state_with f s) ≡ state_with f (with_use moment s)
  use-with moment (Live timeout last_use value) = refl
  use-with moment Expired = refl
  use-with moment Evicted = refl
  use-with moment Deleted = refl

  older-with : (t other : Kept K) → is_older (kept_with f t) (kept_with f other) ≡ is_older t other
  older-with t other = rw (last-with t.state, last-with other.state) refl

  -- ---- lists of tokens

  commute : (g : Kept K → Kept K) (h : Kept T → Kept T) → ((t : Kept K) → h (kept_with f t) ≡ kept_with f (g t)) → (ts : List (Kept K)) → map h (map (kept_with f) ts) ≡ map (kept_with f) (map g ts)
  commute g h same [] = refl
  commute g h same (t ∷ ts) = ap (λ x. x ∷ map h (map (kept_with f) ts)) (same t) ∙ ap (λ l. kept_with f (g t) ∷ l) (commute g h same ts)

  pub expired-with : (moment : ℕ) (ts : List (Kept K)) → expired moment (map (kept_with f) ts) ≡ map (kept_with f) (expired moment ts)
  expired-with moment ts = commute (expire_at moment) (expire_at moment) one ts
    where
      one : (t : Kept K) → expire_at moment (kept_with f t) ≡ kept_with f (expire_at moment t)
      one t = rw (over-with moment t.state) (go (is_over moment t.state))
        where
          go : (b : Bool) → (if b then record (kept_with f t) { state = Expired } else kept_with f t) ≡ kept_with f (if b then record t { state = Expired } else t)
          go true = refl
          go false = refl

  lives-with : (ts : List (Kept K)) → live (map (kept_with f) ts) ≡ map (kept_with f) (live ts)
  lives-with [] = refl
  lives-with (t ∷ ts) = rw (live-with t.state) (go (is_live t.state) (lives-with ts))
    where
      go : (b : Bool) → live (map (kept_with f) ts) ≡ map (kept_with f) (live ts)
          → (if b then kept_with f t ∷ live (map (kept_with f) ts) else live (map (kept_with f) ts)) ≡ map (kept_with f) (if b then t ∷ live ts else live ts)
      go true ih = ap (λ l. kept_with f t ∷ l) ih
      go false ih = ih

  all-older : (t : Kept K) (ts : List (Kept K)) → list_all (is_older (kept_with f t)) (map (kept_with f) ts) ≡ list_all (is_older t) ts
  all-older t [] = refl
  all-older t (x ∷ xs) = ap (λ b. b && list_all (is_older (kept_with f t)) (map (kept_with f) xs)) (older-with t x) ∙ ap (λ b. is_older t x && b) (all-older t xs)

  pub count-with : (ts : List (Kept K)) → length (live (map (kept_with f) ts)) ≡ length (live ts)
  count-with ts = ap length (lives-with ts) ∙ length-map (live ts) (kept_with f)

  way-with : (ts : List (Kept K)) (t : Kept K) → gives_way (map (kept_with f) ts) (kept_with f t) ≡ gives_way ts t
  way-with ts t =
      ap (λ b. b && ((length (live (map (kept_with f) ts)) == live_tokens) && list_all (is_older (kept_with f t)) (live (map (kept_with f) ts)))) (live-with t.state)
      ∙ ap (λ n. is_live t.state && ((n == live_tokens) && list_all (is_older (kept_with f t)) (live (map (kept_with f) ts)))) (count-with ts)
      ∙ ap (λ l. is_live t.state && ((length (live ts) == live_tokens) && list_all (is_older (kept_with f t)) l)) (lives-with ts)
      ∙ ap (λ b. is_live t.state && ((length (live ts) == live_tokens) && b)) (all-older t (live ts))

  evicted-with : (ts : List (Kept K)) → map (evict_if (map (kept_with f) ts)) (map (kept_with f) ts) ≡ map (kept_with f) (map (evict_if ts) ts)
  evicted-with ts = commute (evict_if ts) (evict_if (map (kept_with f) ts)) one ts
    where
      one : (t : Kept K) → evict_if (map (kept_with f) ts) (kept_with f t) ≡ kept_with f (evict_if ts t)
      one t = ap (λ b. if b then record (kept_with f t) { state = Evicted } else kept_with f t) (way-with ts t) ∙ go (gives_way ts t)
        where
          go : (b : Bool) → (if b then record (kept_with f t) { state = Evicted } else kept_with f t) ≡ kept_with f (if b then record t { state = Evicted } else t)
          go true = refl
          go false = refl

  pub populated-with : (ts : List (Kept K)) (moment timeout blocks : ℕ) (value : K)
      → populated (map (kept_with f) ts) moment timeout blocks (f value) ≡ map (kept_with f) (populated ts moment timeout blocks value)
  populated-with ts moment timeout blocks value =
      ap (λ l. l ++ record { serial = length (map (kept_with f) ts); blocks = blocks; state = Live timeout moment (f value) } ∷ []) (evicted-with ts)
      ∙ ap (λ n. map (kept_with f) (map (evict_if ts) ts) ++ record { serial = n; blocks = blocks; state = Live timeout moment (f value) } ∷ []) (length-map ts (kept_with f))
      ∙ sym (map-append (kept_with f) (map (evict_if ts) ts) (record { serial = length ts; blocks = blocks; state = Live timeout moment value } ∷ []))

  pub deleted-with : (serial : ℕ) (ts : List (Kept K)) → deleted serial (map (kept_with f) ts) ≡ map (kept_with f) (deleted serial ts)
  deleted-with serial ts = commute (end_at Deleted serial) (end_at Deleted serial) one ts
    where
      one : (t : Kept K) → end_at Deleted serial (kept_with f t) ≡ kept_with f (end_at Deleted serial t)
      one t = rw (live-with t.state) (go (is_live t.state && (t.serial == serial)))
        where
          go : (b : Bool) → (if b then record (kept_with f t) { state = Deleted } else kept_with f t) ≡ kept_with f (if b then record t { state = Deleted } else t)
          go true = refl
          go false = refl

  pub used-with : (serial moment : ℕ) (ts : List (Kept K)) → used serial moment (map (kept_with f) ts) ≡ map (kept_with f) (used serial moment ts)
  used-with serial moment ts = commute (use_at serial moment) (use_at serial moment) one ts
    where
      one : (t : Kept K) → use_at serial moment (kept_with f t) ≡ kept_with f (use_at serial moment t)
      one t = rw (live-with t.state, use-with moment t.state) (go (is_live t.state && (t.serial == serial)))
        where
          go : (b : Bool) → (if b then record (kept_with f t) { state = state_with f (with_use moment t.state) } else kept_with f t) ≡ kept_with f (if b then record t { state = with_use moment t.state } else t)
          go true = refl
          go false = refl

  -- ---- values

  found-with : (ts : List (Kept K)) (s : ℕ) → slice_get (map (kept_with f) ts) s ≡ option_map (kept_with f) (slice_get ts s)
  found-with [] s = refl
  found-with (t ∷ ts) zero = refl
  found-with (t ∷ ts) (suc s) = found-with ts s

  pub value-with : (ts : List (Kept K)) (s : ℕ) → value_at s (map (kept_with f) ts) ≡ option_map f (value_at s ts)
  value-with ts s = ap value_in (found-with ts s) ∙ go (slice_get ts s)
    where
      go : (o : Option (Kept K)) → value_in (option_map (kept_with f) o) ≡ option_map f (value_in o)
      go None = refl
      go (Some t) = of-with t.state

  pub some-with : (o : Option K) → IsSome (option_map f o) → IsSome o
  some-with None some = some
  some-with (Some k) some = refl

  -- ---- redeems

  abbrev value-result : Result K SenseCode → Result T SenseCode
  value-result (Ok k) = Ok (f k)
  value-result (Err e) = Err e

  judged-with : (config : Configuration) (unit now : ℕ) (text : List ℕ) (target : ℕ) (ts : List (Kept K))
      → judged config unit now text target (map (kept_with f) ts) ≡ value-result (judged config unit now text target ts)
  judged-with config unit now text target ts = ap (judged_token config unit now text target) (found-with ts (serial_of text)) ∙ go (slice_get ts (serial_of text))
    where
      state : (s : TokenState K) → judged_state now (state_with f s) ≡ value-result (judged_state now s)
      state (Live timeout last_use value) = over (nat_lt (last_use + timeout) now)
        where
          over : (b : Bool) → (if b then Err token_expired else Ok (f value)) ≡ value-result (if b then Err token_expired else Ok value)
          over true = refl
          over false = refl
      state Expired = refl
      state Evicted = refl
      state Deleted = refl

      tests : (t : Kept K) (a b : Bool)
          → (if not a then Err remote_token_usage_not_supported else if not b then Err token_corrupt else judged_state now (state_with f t.state))
          ≡ value-result (if not a then Err remote_token_usage_not_supported else if not b then Err token_corrupt else judged_state now t.state)
      tests t false b = refl
      tests t true false = refl
      tests t true true = state t.state

      go : (o : Option (Kept K)) → judged_token config unit now text target (option_map (kept_with f) o) ≡ value-result (judged_token config unit now text target o)
      go None = refl
      go (Some t) = tests t (are_alike (unit_of config unit) (unit_of config target)) (bytes_eq text (token_text config unit t.serial t.blocks))

  pub judged-ok : (config : Configuration) (unit now : ℕ) (text : List ℕ) (target : ℕ) (ts : List (Kept K)) (k : K) → judged config unit now text target ts ≡ Ok k
      → judged config unit now text target (map (kept_with f) ts) ≡ Ok (f k)
  judged-ok config unit now text target ts k e = judged-with config unit now text target ts ∙ ap value-result e

  pub judged-err : (config : Configuration) (unit now : ℕ) (text : List ℕ) (target : ℕ) (ts : List (Kept K)) (sense : SenseCode) → judged config unit now text target ts ≡ Err sense
      → judged config unit now text target (map (kept_with f) ts) ≡ Err sense
  judged-err config unit now text target ts sense e = judged-with config unit now text target ts ∙ ap value-result e

-- the same values, where the live ones are the same
pub same-with : {K T : Type 0} (f g : K → T) (ts : List (Kept K)) → ((s : ℕ) (k : K) → value_at s ts ≡ Some k → g k ≡ f k) → map (kept_with g) ts ≡ map (kept_with f) ts
same-with f g [] same = refl
same-with f g (t ∷ ts) same =
    ap (λ x. x ∷ map (kept_with g) ts) (ap (λ s. record { serial = t.serial; blocks = t.blocks; state = s }) (go t.state (λ k e. same 0 k e)))
    ∙ ap (λ l. kept_with f t ∷ l) (same-with f g ts (λ s k e. same (suc s) k e))
  where
    go : (s : TokenState _) → ((k : _) → value_of s ≡ Some k → g k ≡ f k) → state_with g s ≡ state_with f s
    go (Live timeout last_use value) h = ap (Live timeout last_use) (h value refl)
    go Expired h = refl
    go Evicted h = refl
    go Deleted h = refl
