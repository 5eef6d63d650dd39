-- What the live tokens are once one of them has ended, was used, or was added
use Rattle.std.proofs.Common.{◌≡◌, ℕ, zero, suc, ◌+◌, ◌≤◌, ◌≢◌, List, [], ◌∷◌, ◌++◌, map, length, refl, ap, ◌∙◌, arith, true, false, Bool, cond, not, slice_get, Some, None}
use Rattle.std.specs.Prelude.{◌||◌, ◌&&◌, ◌==◌, filter, is_some}
use Rattle.std.specs.List.{list_any}
use Rattle.std.proofs.lemmas.Bool.Decides.{nat_tests}
use Rattle.std.proofs.lemmas.List.Elements.{filter-append}
use Rattle.std.proofs.lemmas.List.{map-append}
use Rattle.rod_store.specs.declared.kept.Kept.{Kept}
use Rattle.rod_store.specs.declared.kept.TokenState.{TokenState}
use Rattle.rod_store.specs.declared.kept.TokenState.TheVariants.{Live, Expired, Evicted, Deleted}
use Rattle.rod_store.specs.Kept.{IsPlaced, is_live, is_over, is_over_at, live, value_of, end_at, use_at, with_use, used, first, expire_at, expired, expire_first}
use Rattle.rod_store.specs.inner.Store.{serials, is_used_before}
use Rattle.rod_store.proofs.Places.{map-behind, first-at}

module _ {T : Type 0} where
  -- ---- a state

  pub ended-not_over : (now : ℕ) (s : TokenState T) → is_live s ≡ false → is_over now s ≡ false
  ended-not_over now (Live timeout last_use value) e = cc
  ended-not_over now Expired e = refl
  ended-not_over now Evicted e = refl
  ended-not_over now Deleted e = refl

  pub over-live : (now : ℕ) (s : TokenState T) → is_over now s ≡ true → is_live s ≡ true
  over-live now (Live timeout last_use value) e = refl
  over-live now Expired e = cc
  over-live now Evicted e = cc
  over-live now Deleted e = cc

  pub not_over-earlier : (now earlier : ℕ) → earlier ≤ now → (s : TokenState T) → is_over now s ≡ false → is_over earlier s ≡ false
  not_over-earlier now earlier before (Live timeout last_use value) e = grind (arith, nat_tests)
  not_over-earlier now earlier before Expired e = refl
  not_over-earlier now earlier before Evicted e = refl
  not_over-earlier now earlier before Deleted e = refl

  pub ended-not_before : (now : ℕ) (s : TokenState T) → is_live s ≡ false → is_used_before now s ≡ false
  ended-not_before now (Live timeout last_use value) e = cc
  ended-not_before now Expired e = refl
  ended-not_before now Evicted e = refl
  ended-not_before now Deleted e = refl

  pub not_before-earlier : (now earlier : ℕ) → earlier ≤ now → (s : TokenState T) → is_used_before now s ≡ false → is_used_before earlier s ≡ false
  not_before-earlier now earlier before (Live timeout last_use value) e = grind (arith, nat_tests)
  not_before-earlier now earlier before Expired e = refl
  not_before-earlier now earlier before Evicted e = refl
  not_before-earlier now earlier before Deleted e = refl

  pub live-value : (s : TokenState T) → is_some (value_of s) ≡ is_live s
  live-value (Live timeout last_use value) = refl
  live-value Expired = refl
  live-value Evicted = refl
  live-value Deleted = refl

  pub with_use-live : (moment : ℕ) (s : TokenState T) → is_live (with_use moment s) ≡ is_live s
  with_use-live moment (Live timeout last_use value) = refl
  with_use-live moment Expired = refl
  with_use-live moment Evicted = refl
  with_use-live moment Deleted = refl

  -- ---- one token ends

  pub end_at-is : (ending : TokenState T) (serial : ℕ) (x : Kept T) → is_live x.state ≡ true → x.serial ≡ serial → end_at ending serial x ≡ record x { state = ending }
  end_at-is ending serial x lives same = let t : (x.serial == serial) ≡ true = grind (arith, nat_tests) in rw (lives, t) refl

  pub end_at-other : (ending : TokenState T) (serial : ℕ) (x : Kept T) → x.serial ≢ serial → end_at ending serial x ≡ x
  end_at-other ending serial x other = go (is_live x.state)
    where
      test : (x.serial == serial) ≡ false
      test = grind (arith, nat_tests)

      go : (b : Bool) → cond (b && (x.serial == serial)) (record x { state = ending }) x ≡ x
      go true = rw test refl
      go false = refl

  pub end_at-ended : (ending : TokenState T) (serial : ℕ) (x : Kept T) → is_live x.state ≡ false → end_at ending serial x ≡ x
  end_at-ended ending serial x ended = rw ended refl

  pub end_at-serial : (ending : TokenState T) (serial : ℕ) (x : Kept T) → (end_at ending serial x).serial ≡ x.serial
  end_at-serial ending serial x = go (is_live x.state && (x.serial == serial))
    where
      go : (b : Bool) → (cond b (record x { state = ending }) x).serial ≡ x.serial
      go true = refl
      go false = refl

  -- its serial goes out of the list of the live ones
  pub serials-end : (ending : TokenState T) → is_live ending ≡ false → (serial : ℕ) (tokens : List (Kept T))
      → filter (λ other. not (other == serial)) (serials (live tokens)) ≡ serials (live (map (end_at ending serial) tokens))
  serials-end ending ends serial [] = refl
  serials-end ending ends serial (x ∷ xs) = go (is_live x.state) refl (x.serial == serial) refl (serials-end ending ends serial xs)
    where
      go : (b : Bool) → is_live x.state ≡ b → (c : Bool) → (x.serial == serial) ≡ c
          → filter (λ other. not (other == serial)) (serials (live xs)) ≡ serials (live (map (end_at ending serial) xs))
          → filter (λ other. not (other == serial)) (serials (live (x ∷ xs))) ≡ serials (live (map (end_at ending serial) (x ∷ xs)))
      go true e true f rest = rw (e, f, ends) rest
      go true e false f rest = rw (e, f) (rw e (ap (λ l. x.serial ∷ l) rest))
      go false e c f rest = rw e (rw e rest)

  pub fewer-end : (ending : TokenState T) → is_live ending ≡ false → (serial n : ℕ) (tokens : List (Kept T)) → IsPlaced n tokens
      → (k : ℕ) (t : Kept T) → serial ≡ n + k → slice_get tokens k ≡ Some t → is_live t.state ≡ true
      → length (live (map (end_at ending serial) tokens)) + 1 ≡ length (live tokens)
  fewer-end ending ends serial n [] placed k t at found lives = absurd (grind arith)
  fewer-end ending ends serial n (x ∷ xs) placed zero t at found lives =
      let same : x ≡ t = grind arith in
      let here : x.serial ≡ serial = placed.0 ∙ omega arith in
      let alive : is_live x.state ≡ true = rw same lives in
      let head : end_at ending serial x ≡ record x { state = ending } = end_at-is ending serial x alive here in
      let rest : map (end_at ending serial) xs ≡ xs = map-behind (end_at ending serial) serial (end_at-other ending serial) (suc n) xs placed.1 (omega arith) in
      rw (head, rest, alive, ends) (omega arith)
  fewer-end ending ends serial n (x ∷ xs) placed (suc k) t at found lives =
      let here : x.serial ≡ n = placed.0 in
      let head : end_at ending serial x ≡ x = end_at-other ending serial x (λ e. omega arith) in
      let rest : length (live (map (end_at ending serial) xs)) + 1 ≡ length (live xs) = fewer-end ending ends serial (suc n) xs placed.1 k t (omega arith) found lives in
      rw head (go (is_live x.state) rest)
    where
      go : (b : Bool) → length (live (map (end_at ending serial) xs)) + 1 ≡ length (live xs)
          → length (cond b (x ∷ live (map (end_at ending serial) xs)) (live (map (end_at ending serial) xs))) + 1 ≡ length (cond b (x ∷ live xs) (live xs))
      go true e = omega arith
      go false e = e

  -- ---- one token is used

  pub use_at-is : (serial moment : ℕ) (x : Kept T) → is_live x.state ≡ true → x.serial ≡ serial → use_at serial moment x ≡ record x { state = with_use moment x.state }
  use_at-is serial moment x lives same = let t : (x.serial == serial) ≡ true = grind (arith, nat_tests) in rw (lives, t) refl

  pub use_at-other : (serial moment : ℕ) (x : Kept T) → x.serial ≢ serial → use_at serial moment x ≡ x
  use_at-other serial moment x other = go (is_live x.state)
    where
      test : (x.serial == serial) ≡ false
      test = grind (arith, nat_tests)

      go : (b : Bool) → cond (b && (x.serial == serial)) (record x { state = with_use moment x.state }) x ≡ x
      go true = rw test refl
      go false = refl

  pub use_at-serial : (serial moment : ℕ) (x : Kept T) → (use_at serial moment x).serial ≡ x.serial
  use_at-serial serial moment x = go (is_live x.state && (x.serial == serial))
    where
      go : (b : Bool) → (cond b (record x { state = with_use moment x.state }) x).serial ≡ x.serial
      go true = refl
      go false = refl

  pub use_at-live : (serial moment : ℕ) (x : Kept T) → is_live (use_at serial moment x).state ≡ is_live x.state
  use_at-live serial moment x = go (is_live x.state && (x.serial == serial))
    where
      go : (b : Bool) → is_live (cond b (record x { state = with_use moment x.state }) x).state ≡ is_live x.state
      go true = with_use-live moment x.state
      go false = refl

  pub serials-used : (serial moment : ℕ) (tokens : List (Kept T)) → serials (live (used serial moment tokens)) ≡ serials (live tokens)
  serials-used serial moment [] = refl
  serials-used serial moment (x ∷ xs) = rw (use_at-live serial moment x) (go (is_live x.state) (serials-used serial moment xs))
    where
      go : (b : Bool) → serials (live (used serial moment xs)) ≡ serials (live xs) → serials (cond b (use_at serial moment x ∷ live (used serial moment xs)) (live (used serial moment xs))) ≡ serials (cond b (x ∷ live xs) (live xs))
      go true rest = rw (use_at-serial serial moment x, rest) refl
      go false rest = rest

  -- ---- one more token

  pub live-push : (tokens : List (Kept T)) (y : Kept T) → is_live y.state ≡ true → live (tokens ++ y ∷ []) ≡ live tokens ++ y ∷ []
  live-push tokens y lives = filter-append (λ (t : Kept T). is_live t.state) tokens (y ∷ []) ∙ ap (λ l. live tokens ++ l) (rw lives refl)

  pub serials-push : (tokens : List (Kept T)) (y : Kept T) → is_live y.state ≡ true → serials (live (tokens ++ y ∷ [])) ≡ serials (live tokens) ++ y.serial ∷ []
  serials-push tokens y lives = rw (live-push tokens y lives) (map-append (λ (t : Kept T). t.serial) (live tokens) (y ∷ []))

  -- ---- tokens whose time is over

  -- the first of them ends
  pub expire_first-end : (now n : ℕ) (tokens : List (Kept T)) → IsPlaced n tokens → (t : Kept T) → first (is_over_at now) tokens ≡ Some t
      → map (end_at Expired t.serial) tokens ≡ expire_first now tokens
  expire_first-end now n [] placed t found = refl
  expire_first-end now n (x ∷ xs) placed t found = go (is_over now x.state) refl found (expire_first-end now (suc n) xs placed.1 t)
    where
      go : (b : Bool) → is_over now x.state ≡ b → cond b (Some x) (first (is_over_at now) xs) ≡ Some t
          → (first (is_over_at now) xs ≡ Some t → map (end_at Expired t.serial) xs ≡ expire_first now xs)
          → map (end_at Expired t.serial) (x ∷ xs) ≡ cond b (expire_at now x ∷ xs) (x ∷ expire_first now xs)
      go true e f behind =
          let same : x ≡ t = grind arith in
          let here : x.serial ≡ t.serial = ap (λ (y : Kept T). y.serial) same in
          let low : x.serial ≡ n = placed.0 in
          let head : end_at Expired t.serial x ≡ record x { state = Expired } = end_at-is Expired t.serial x (over-live now x.state e) here in
          let rest : map (end_at Expired t.serial) xs ≡ xs = map-behind (end_at Expired t.serial) t.serial (end_at-other Expired t.serial) (suc n) xs placed.1 (omega arith) in
          rw (head, rest, e) refl
      go false e f behind =
          let later = first-at (is_over_at now) (suc n) xs placed.1 t f in
          let far : t.serial ≡ suc n + later.0 = later.1 in
          let low : x.serial ≡ n = placed.0 in
          let head : end_at Expired t.serial x ≡ x = end_at-other Expired t.serial x (λ s. omega arith) in
          rw (head, behind f) refl

  pub expire_first-none : (now : ℕ) (tokens : List (Kept T)) → list_any (is_over_at now) tokens ≡ false → expire_first now tokens ≡ tokens
  expire_first-none now [] none = refl
  expire_first-none now (x ∷ xs) none = go (is_over now x.state) none (expire_first-none now xs)
    where
      go : (b : Bool) → (b || list_any (is_over_at now) xs) ≡ false → (list_any (is_over_at now) xs ≡ false → expire_first now xs ≡ xs) → cond b (expire_at now x ∷ xs) (x ∷ expire_first now xs) ≡ x ∷ xs
      go true e rest = cc
      go false e rest = ap (λ l. x ∷ l) (rest e)

  pub expired-none : (now : ℕ) (tokens : List (Kept T)) → list_any (is_over_at now) tokens ≡ false → expired now tokens ≡ tokens
  expired-none now [] none = refl
  expired-none now (x ∷ xs) none = go (is_over now x.state) none (expired-none now xs)
    where
      go : (b : Bool) → (b || list_any (is_over_at now) xs) ≡ false → (list_any (is_over_at now) xs ≡ false → expired now xs ≡ xs) → cond b (record x { state = Expired }) x ∷ expired now xs ≡ x ∷ xs
      go true e rest = cc
      go false e rest = ap (λ l. x ∷ l) (rest e)

  pub first-any : (p : Kept T → Bool) (tokens : List (Kept T)) → list_any p tokens ≡ false → first p tokens ≡ None
  first-any p [] none = refl
  first-any p (x ∷ xs) none = go (p x) none (first-any p xs)
    where
      go : (b : Bool) → (b || list_any p xs) ≡ false → (list_any p xs ≡ false → first p xs ≡ None) → cond b (Some x) (first p xs) ≡ None
      go true e rest = cc
      go false e rest = rest e

  pub any-first : (p : Kept T → Bool) (tokens : List (Kept T)) → first p tokens ≡ None → list_any p tokens ≡ false
  any-first p [] none = refl
  any-first p (x ∷ xs) none = go (p x) none (any-first p xs)
    where
      go : (b : Bool) → cond b (Some x) (first p xs) ≡ None → (first p xs ≡ None → list_any p xs ≡ false) → (b || list_any p xs) ≡ false
      go true e rest = absurd (grind arith)
      go false e rest = rest e

  pub expired-first : (now : ℕ) (tokens : List (Kept T)) → expired now (expire_first now tokens) ≡ expired now tokens
  expired-first now [] = refl
  expired-first now (x ∷ xs) = go (is_over now x.state) refl (expired-first now xs)
    where
      go : (b : Bool) → is_over now x.state ≡ b → expired now (expire_first now xs) ≡ expired now xs → expired now (cond b (expire_at now x ∷ xs) (x ∷ expire_first now xs)) ≡ expired now (x ∷ xs)
      go true e rest = rw e refl
      go false e rest = ap (λ l. expire_at now x ∷ l) rest
