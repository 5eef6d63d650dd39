-- The token that was used least lately
use Rattle.std.proofs.Common.{◌≡◌, ℕ, suc, [], ◌∷◌, cond, ◌+◌, ◌<◌, ◌≤◌, ◌≢◌, take, get_or, List, map, length, refl, sym, ◌∙◌, subst, arith, true, false, Bool, slice_get, Some, None, ◌⊎◌, inl, inr}
use Rattle.rod_store.proofs.Places.{same_or_not, next, placed-front, map-agree, map-same, first-is, first-none, all-more, all-implies}
use Rattle.std.specs.Prelude.{◌||◌, ◌&&◌, ◌==◌, nat_lt, nat_le}
use Rattle.std.specs.List.{list_any, list_all}
use Rattle.std.proofs.lemmas.Bool.Decides.{nat_tests}
use Rattle.cm_history.specs.Bounds.{live_tokens}
use Rattle.rod_store.specs.declared.kept.Kept.{Kept}
use Rattle.rod_store.specs.declared.kept.TokenState.{TokenState}
use Rattle.rod_store.specs.declared.kept.TokenState.TheVariants.{Live, Expired, Evicted, Deleted}
use Rattle.rod_store.specs.Kept.{IsPlaced, is_live, live, used_last, is_older, gives_way, evict_if, evicted_value, end_at, value_at, first}
use Rattle.rod_store.specs.inner.Store.{is_used_before, is_used_before_at, IsOldest}
use Rattle.rod_store.proofs.Endings.{ended-not_before, end_at-is, end_at-other}
use Rattle.std.proofs.lemmas.List.{take_all}
use Rattle.cm_history.proofs.PublicLaws.{and_second as and-right, and_first as and-left}
use Rattle.rod_store.proofs.LiveWalks.{LiveAt, all-live-at, token-read, token-found}

-- the order of two pairs of a last use and a serial
abbrev older : ℕ → ℕ → ℕ → ℕ → Bool
older a s b t = nat_lt a b || (a == b && nat_le s t)

older-self : (a s : ℕ) → older a s a s ≡ true
older-self a s = grind (arith, nat_tests)

older-else : (a s b t : ℕ) → older a s b t ≡ false → older b t a s ≡ true
older-else a s b t e = grind (arith, nat_tests)

older-next : (a s b t c u : ℕ) → older a s b t ≡ true → older b t c u ≡ true → older a s c u ≡ true
older-next a s b t c u e f = grind (arith, nat_tests)

older-both : (a s b t : ℕ) → older a s b t ≡ true → older b t a s ≡ true → s ≡ t
older-both a s b t e f = grind (arith, nat_tests)

or-first : (a b : Bool) → (a || b) ≡ false → a ≡ false
or-first true b e = cc
or-first false b e = refl

or-later : (a b : Bool) → (a || b) ≡ false → b ≡ false
or-later true b e = cc
or-later false b e = e

module _ {T : Type 0} where
  pub is_older-self : (t : Kept T) → is_older t t ≡ true
  is_older-self t = older-self (used_last t.state) t.serial

  pub is_older-else : (t other : Kept T) → is_older t other ≡ false → is_older other t ≡ true
  is_older-else t other e = older-else (used_last t.state) t.serial (used_last other.state) other.serial e

  pub is_older-next : (t other third : Kept T) → is_older t other ≡ true → is_older other third ≡ true → is_older t third ≡ true
  is_older-next t other third e f = older-next (used_last t.state) t.serial (used_last other.state) other.serial (used_last third.state) third.serial e f

  is_older-both : (t other : Kept T) → is_older t other ≡ true → is_older other t ≡ true → t.serial ≡ other.serial
  is_older-both t other e f = older-both (used_last t.state) t.serial (used_last other.state) other.serial e f

  full : (tokens : List (Kept T)) → length (live tokens) ≡ live_tokens → (length (live tokens) == live_tokens) ≡ true
  full tokens many = grind (arith, nat_tests)

  -- the oldest makes room where 64 are live
  oldest-makes : (tokens : List (Kept T)) (place : ℕ) → length (live tokens) ≡ live_tokens → (o : IsOldest tokens place) → gives_way tokens o.token ≡ true
  oldest-makes tokens place many o = rw (o.lives, full tokens many, o.oldest) refl

  -- and no other
  others-stay : (tokens : List (Kept T)) (place : ℕ) → (o : IsOldest tokens place) → (k : ℕ) (x : Kept T) → slice_get tokens k ≡ Some x → x.serial ≢ o.token.serial → gives_way tokens x ≡ false
  others-stay tokens place o k x found other = go (is_live x.state) refl (length (live tokens) == live_tokens) (list_all (is_older x) (live tokens)) refl
    where
      go : (a : Bool) → is_live x.state ≡ a → (b : Bool) → (c : Bool) → list_all (is_older x) (live tokens) ≡ c → (a && (b && c)) ≡ false
      go false e b c f = refl
      go true e false c f = refl
      go true e true false f = refl
      go true e true true f =
          let before : is_older x o.token ≡ true = all-live-at (is_older x) tokens f place o.token o.found o.lives in
          let after : is_older o.token x ≡ true = all-live-at (is_older o.token) tokens o.oldest k x found e in
          absurd (other (is_older-both x o.token before after))

  pub evict-end : (tokens : List (Kept T)) (place : ℕ) → IsPlaced 0 tokens → length (live tokens) ≡ live_tokens → IsOldest tokens place
      → map (end_at Evicted place) tokens ≡ map (evict_if tokens) tokens
  evict-end tokens place placed many o = map-agree (end_at Evicted place) (evict_if tokens) tokens (λ k x found. go k x found (cases k))
    where
      at : o.token.serial ≡ place
      at = placed-front tokens placed place o.token o.found

      cases : (k : ℕ) → (k ≡ place) ⊎ (k ≢ place)
      cases k = same_or_not k place

      go : (k : ℕ) (x : Kept T) → slice_get tokens k ≡ Some x → (k ≡ place) ⊎ (k ≢ place) → end_at Evicted place x ≡ evict_if tokens x
      go k x found (inl e) =
          let mine : slice_get tokens place ≡ Some x = subst (λ j. slice_get tokens j ≡ Some x) e found in
          let same : o.token ≡ x = let f = o.found in grind arith in
          let makes : gives_way tokens x ≡ true = rw (← same) (oldest-makes tokens place many o) in
          let lives : is_live x.state ≡ true = rw (← same) o.lives in
          let here : x.serial ≡ place = rw (← same) at in
          rw (makes, end_at-is Evicted place x lives here) refl
      go k x found (inr ne) =
          let here : x.serial ≡ k = placed-front tokens placed k x found in
          let other : x.serial ≢ o.token.serial = λ e. ne (sym here ∙ e ∙ at) in
          let far : x.serial ≢ place = λ e. ne (sym here ∙ e) in
          rw (others-stay tokens place o k x found other, end_at-other Evicted place x far) refl

  pub evicted-first : (tokens : List (Kept T)) (place : ℕ) → IsPlaced 0 tokens → length (live tokens) ≡ live_tokens → IsOldest tokens place
      → evicted_value tokens ≡ value_at place tokens
  evicted-first tokens place placed many o =
      let first_one : first (gives_way tokens) tokens ≡ Some o.token =
      first-is (gives_way tokens) tokens place o.token o.found (oldest-makes tokens place many o)
      (λ j x found ne. others-stay tokens place o j x found (λ e. ne (sym (placed-front tokens placed j x found) ∙ e ∙ placed-front tokens placed place o.token o.found))) in
      rw (first_one, o.found) refl

  -- where fewer are live, none makes room
  few-stay : (tokens : List (Kept T)) → length (live tokens) < live_tokens → (x : Kept T) → gives_way tokens x ≡ false
  few-stay tokens few x = let not_full : (length (live tokens) == live_tokens) ≡ false = grind (arith, nat_tests) in rw not_full (go (is_live x.state))
    where
      go : (a : Bool) → (a && false) ≡ false
      go true = refl
      go false = refl

  pub evict-none : (tokens : List (Kept T)) → length (live tokens) < live_tokens → map (evict_if tokens) tokens ≡ tokens
  evict-none tokens few = map-same (evict_if tokens) tokens (λ k x found. rw (few-stay tokens few x) refl)

  pub evicted-none : (tokens : List (Kept T)) → length (live tokens) < live_tokens → evicted_value tokens ≡ None
  evicted-none tokens few = rw (first-none (gives_way tokens) tokens (λ k x found. few-stay tokens few x)) refl

  -- the live token at this place is the oldest of those that were passed
  pub record OldestSoFar (tokens : List (Kept T)) (passed place : ℕ) : Type 0 where
    pub token : Kept T
    pub found : slice_get tokens place ≡ Some token
    pub lives : is_live token.state ≡ true
    pub oldest : list_all (is_older token) (take passed (live tokens)) ≡ true

  pub oldest-all : (tokens : List (Kept T)) (passed place : ℕ) → length (live tokens) ≤ passed → OldestSoFar tokens passed place → IsOldest tokens place
  oldest-all tokens passed place all o =
      record { token = o.token; found = o.found; lives = o.lives; oldest = subst (λ l. list_all (is_older o.token) l ≡ true) (take_all passed (live tokens) all) o.oldest }

  pub oldest-first : (tokens : List (Kept T)) (i serial : ℕ) → LiveAt tokens i serial → OldestSoFar tokens 0 serial
  oldest-first tokens i serial at = record { token = at.token; found = at.found; lives = at.lives; oldest = refl }

  -- one more that is older
  pub oldest-new : (tokens : List (Kept T)) (passed place serial : ℕ) (x y : Kept T) → x ≡ get_or tokens serial x → y ≡ get_or tokens place y → (o : OldestSoFar tokens passed place) → (at : LiveAt tokens passed serial)
      → is_older x y ≡ true → OldestSoFar tokens (passed + 1) serial
  oldest-new tokens passed place serial x y read_x read_y o at older_one =
      let before : is_older at.token o.token ≡ true = rw (token-read tokens passed serial at x ∙ sym read_x, token-found tokens place y o.token o.found ∙ sym read_y) older_one in
      subst (λ n. OldestSoFar tokens n serial) (next passed)
      record {
        token = at.token;
        found = at.found;
        lives = at.lives;
        oldest = all-more (is_older at.token) (live tokens) passed at.token at.nth
            (all-implies (is_older o.token) (is_older at.token) (λ x later. is_older-next at.token o.token x before later) (take passed (live tokens)) o.oldest)
            (is_older-self at.token);
      }

  -- and one that is not
  pub oldest-old : (tokens : List (Kept T)) (passed place serial : ℕ) (x y : Kept T) → x ≡ get_or tokens serial x → y ≡ get_or tokens place y → (o : OldestSoFar tokens passed place) → (at : LiveAt tokens passed serial)
      → is_older x y ≡ false → OldestSoFar tokens (passed + 1) place
  oldest-old tokens passed place serial x y read_x read_y o at later_one =
      let later : is_older at.token o.token ≡ false = rw (token-read tokens passed serial at x ∙ sym read_x, token-found tokens place y o.token o.found ∙ sym read_y) later_one in
      subst (λ n. OldestSoFar tokens n place) (next passed)
      record {
        token = o.token;
        found = o.found;
        lives = o.lives;
        oldest = all-more (is_older o.token) (live tokens) passed at.token at.nth o.oldest (is_older-else at.token o.token later);
      }

  -- ---- the first, where none was used before it

  used-from : (moment : ℕ) (s : TokenState T) → is_live s ≡ true → is_used_before moment s ≡ false → moment ≤ used_last s
  used-from moment (Live timeout last_use value) lives e = grind (arith, nat_tests)
  used-from moment Expired lives e = cc
  used-from moment Evicted lives e = cc
  used-from moment Deleted lives e = cc

  -- it is older than those behind it
  older-than-later : (t : Kept T) (moment n : ℕ) (tokens : List (Kept T)) → IsPlaced n tokens → t.serial ≤ n → used_last t.state ≤ moment
      → list_any (is_used_before_at moment) tokens ≡ false → list_all (is_older t) (live tokens) ≡ true
  older-than-later t moment n [] placed low used none = refl
  older-than-later t moment n (x ∷ xs) placed low used none = go (is_live x.state) refl (older-than-later t moment (suc n) xs placed.1 (omega arith) used (or-later (is_used_before moment x.state) (list_any (is_used_before_at moment) xs) none))
    where
      go : (b : Bool) → is_live x.state ≡ b → list_all (is_older t) (live xs) ≡ true → list_all (is_older t) (cond b (x ∷ live xs) (live xs)) ≡ true
      go true lives rest =
          let here : x.serial ≡ n = placed.0 in
          let from = used-from moment x.state lives (or-first (is_used_before moment x.state) (list_any (is_used_before_at moment) xs) none) in
          let older : is_older t x ≡ true = grind (arith, nat_tests) in
          rw (older, rest) refl
      go false lives rest = rest

  first-oldest : (t : Kept T) (moment n : ℕ) (tokens : List (Kept T)) → IsPlaced n tokens → slice_get (live tokens) 0 ≡ Some t → used_last t.state ≤ moment
      → list_any (is_used_before_at moment) tokens ≡ false → list_all (is_older t) (live tokens) ≡ true
  first-oldest t moment n [] placed found used none = refl
  first-oldest t moment n (x ∷ xs) placed found used none = go (is_live x.state) refl found (λ f. first-oldest t moment (suc n) xs placed.1 f used (or-later (is_used_before moment x.state) (list_any (is_used_before_at moment) xs) none))
    where
      go : (b : Bool) → is_live x.state ≡ b → slice_get (cond b (x ∷ live xs) (live xs)) 0 ≡ Some t
          → (slice_get (live xs) 0 ≡ Some t → list_all (is_older t) (live xs) ≡ true) → list_all (is_older t) (cond b (x ∷ live xs) (live xs)) ≡ true
      go true lives f later =
          let same : x ≡ t = grind arith in
          let here : t.serial ≡ n = rw (← same) placed.0 in
          let rest = older-than-later t moment (suc n) xs placed.1 (omega arith) used (or-later (is_used_before moment x.state) (list_any (is_used_before_at moment) xs) none) in
          let self : is_older t x ≡ true = rw (← same) (is_older-self x) in
          rw (self, rest) refl
      go false lives f later = later f

  pub oldest-at-first : (tokens : List (Kept T)) (moment serial : ℕ) (x : Kept T) → IsPlaced 0 tokens → x ≡ get_or tokens serial x → LiveAt tokens 0 serial → used_last x.state ≤ moment
      → list_any (is_used_before_at moment) tokens ≡ false → IsOldest tokens serial
  oldest-at-first tokens moment serial x placed read at used none =
      let same : at.token ≡ x = token-read tokens 0 serial at x ∙ sym read in
      let low : used_last at.token.state ≤ moment = rw same used in
      record { token = at.token; found = at.found; lives = at.lives; oldest = first-oldest at.token moment 0 tokens placed at.nth low none }

  -- none was used before the oldest
  none-before-oldest : (t : Kept T) (tokens : List (Kept T)) → list_all (is_older t) (live tokens) ≡ true → list_any (is_used_before_at (used_last t.state)) tokens ≡ false
  none-before-oldest t [] all = refl
  none-before-oldest t (x ∷ xs) all = go (is_live x.state) refl all (none-before-oldest t xs)
    where
      not-before : (s : TokenState T) → used_last t.state ≤ used_last s → is_used_before (used_last t.state) s ≡ false
      not-before (Live timeout last_use value) low = grind (arith, nat_tests)
      not-before Expired low = refl
      not-before Evicted low = refl
      not-before Deleted low = refl

      go : (b : Bool) → is_live x.state ≡ b → list_all (is_older t) (cond b (x ∷ live xs) (live xs)) ≡ true
          → (list_all (is_older t) (live xs) ≡ true → list_any (is_used_before_at (used_last t.state)) xs ≡ false) → list_any (is_used_before_at (used_last t.state)) (x ∷ xs) ≡ false
      go true lives f later =
          let older : is_older t x ≡ true = and-left (is_older t x) (list_all (is_older t) (live xs)) f in
          let low : used_last t.state ≤ used_last x.state = grind (arith, nat_tests) in
          rw (not-before x.state low, later (and-right (is_older t x) (list_all (is_older t) (live xs)) f)) refl
      go false lives f later = rw (ended-not_before (used_last t.state) x.state lives, later f) refl

  pub least-of-oldest : (tokens : List (Kept T)) (serial : ℕ) (x : Kept T) → x ≡ get_or tokens serial x → IsOldest tokens serial → list_any (is_used_before_at (used_last x.state)) tokens ≡ false
  least-of-oldest tokens serial x read o =
      let same : o.token ≡ x = token-found tokens serial x o.token o.found ∙ sym read in
      rw (← same) (none-before-oldest o.token tokens o.oldest)
