-- A walk by the serials of the live tokens is a walk over the live tokens
use Rattle.std.proofs.Common.{◌≡◌, ℕ, zero, suc, ◌+◌, ◌<◌, ◌≤◌, drop, take, List, [], ◌∷◌, length, get_or, refl, ap, sym, ◌∙◌, subst, arith, true, false, Bool, cond, slice_get, Some, None}
use Rattle.std.specs.Prelude.{◌||◌}
use Rattle.std.specs.List.{list_any, list_all}
use Rattle.rod_store.specs.declared.kept.Kept.{Kept}
use Rattle.rod_store.specs.Kept.{IsPlaced, is_live, is_over, is_over_at, live, first}
use Rattle.std.proofs.lemmas.List.{length-map, drop_all, take_all}
use Rattle.std.proofs.lemmas.Option.{get_or_from_slice_get}
use Rattle.rod_store.specs.inner.Store.{serials, serial_in}
use Rattle.rod_store.proofs.Places.{next, placed-front, first-step, any-more, any-implies}
use Rattle.rod_store.proofs.Endings.{ended-not_over, not_over-earlier}
use Rattle.cm_history.proofs.PublicLaws.{and_second as and-right, and_first as and-left}

module _ {T : Type 0} where
  at-live : (n : ℕ) (tokens : List (Kept T)) → IsPlaced n tokens → (i : ℕ) (t : Kept T) → slice_get (live tokens) i ≡ Some t
      → (k : ℕ) × (t.serial ≡ n + k) × (slice_get tokens k ≡ Some t) × (is_live t.state ≡ true)
  at-live n [] placed i t found = absurd (grind arith)
  at-live n (x ∷ xs) placed i t found = go (is_live x.state) refl i found (λ j f. let later = at-live (suc n) xs placed.1 j t f in (suc later.0, (let at : t.serial ≡ suc n + later.0 = later.1 in omega arith), later.2, later.3))
    where
      go : (b : Bool) → is_live x.state ≡ b → (i : ℕ) → slice_get (cond b (x ∷ live xs) (live xs)) i ≡ Some t
          → ((j : ℕ) → slice_get (live xs) j ≡ Some t → (k : ℕ) × (t.serial ≡ n + k) × (slice_get (x ∷ xs) k ≡ Some t) × (is_live t.state ≡ true))
          → (k : ℕ) × (t.serial ≡ n + k) × (slice_get (x ∷ xs) k ≡ Some t) × (is_live t.state ≡ true)
      go true e zero f behind = let same : x ≡ t = grind arith in let here : x.serial ≡ n = placed.0 in (0, rw (← same) (omega arith), ap Some same, rw (← same) e)
      go true e (suc i) f behind = behind i f
      go false e i f behind = behind i f

  -- the live token at this place of the live ones, which stands at this serial
  pub record LiveAt (tokens : List (Kept T)) (i serial : ℕ) : Type 0 where
    pub token : Kept T
    pub nth : slice_get (live tokens) i ≡ Some token
    pub found : slice_get tokens serial ≡ Some token
    pub lives : is_live token.state ≡ true

  serial-nth : (tokens : List (Kept T)) (i : ℕ) → i < length (serials tokens) → (t : Kept T) × (slice_get tokens i ≡ Some t) × (t.serial ≡ get_or (serials tokens) i 0)
  serial-nth [] i low = absurd (omega arith)
  serial-nth (x ∷ xs) zero low = (x, refl, refl)
  serial-nth (x ∷ xs) (suc i) low = serial-nth xs i (omega arith)

  pub live_at : (tokens : List (Kept T)) (own_serials : List ℕ) → IsPlaced 0 tokens → own_serials ≡ serials (live tokens) → (i : ℕ) → i < length own_serials
      → LiveAt tokens i (get_or own_serials i 0)
  live_at tokens own_serials placed are i low =
      let within : i < length (serials (live tokens)) = subst (λ l. i < length l) are low in
      let nth = serial-nth (live tokens) i within in
      let at = at-live 0 tokens placed i nth.0 nth.1 in
      let here : nth.0.serial ≡ 0 + at.0 = at.1 in
      let zeroth : at.0 ≡ nth.0.serial = omega arith in
      let same : at.0 ≡ get_or own_serials i 0 = zeroth ∙ nth.2 ∙ ap (λ l. get_or l i 0) (sym are) in
      record { token = nth.0; nth = nth.1; found = subst (λ k. slice_get tokens k ≡ Some nth.0) same at.2; lives = at.3 }

  pub first-live : (now : ℕ) (tokens : List (Kept T)) → first (is_over_at now) (live tokens) ≡ first (is_over_at now) tokens
  first-live now [] = refl
  first-live now (x ∷ xs) = go (is_live x.state) refl (first-live now xs)
    where
      go : (b : Bool) → is_live x.state ≡ b → first (is_over_at now) (live xs) ≡ first (is_over_at now) xs → first (is_over_at now) (cond b (x ∷ live xs) (live xs)) ≡ first (is_over_at now) (x ∷ xs)
      go true e rest = ap (λ f. cond (is_over now x.state) (Some x) f) rest
      go false e rest = rw (ended-not_over now x.state e) rest

  pub any-live : (now : ℕ) (tokens : List (Kept T)) → list_any (is_over_at now) (live tokens) ≡ list_any (is_over_at now) tokens
  any-live now [] = refl
  any-live now (x ∷ xs) = go (is_live x.state) refl (any-live now xs)
    where
      go : (b : Bool) → is_live x.state ≡ b → list_any (is_over_at now) (live xs) ≡ list_any (is_over_at now) xs → list_any (is_over_at now) (cond b (x ∷ live xs) (live xs)) ≡ list_any (is_over_at now) (x ∷ xs)
      go true e rest = ap (λ f. is_over now x.state || f) rest
      go false e rest = rw (ended-not_over now x.state e) rest

  pub serials-many : (tokens : List (Kept T)) (own_serials : List ℕ) → own_serials ≡ serials (live tokens) → length own_serials ≡ length (live tokens)
  serials-many tokens own_serials are = ap length are ∙ length-map (live tokens) (λ (t : Kept T). t.serial)

  -- what is read at the serial is that token
  pub token-read : (tokens : List (Kept T)) (i serial : ℕ) → (at : LiveAt tokens i serial) → (d : Kept T) → at.token ≡ get_or tokens serial d
  token-read tokens i serial at d = sym (get_or_from_slice_get tokens serial at.token d at.found)

  pub token-found : (tokens : List (Kept T)) (place : ℕ) (d t : Kept T) → slice_get tokens place ≡ Some t → t ≡ get_or tokens place d
  token-found tokens place d t found = sym (get_or_from_slice_get tokens place t d found)

  -- ---- the first that is over

  pub first-found : (tokens : List (Kept T)) (now i serial : ℕ) → IsPlaced 0 tokens → (at : LiveAt tokens i serial) → (d : Kept T) → is_over now (get_or tokens serial d).state ≡ true
      → first (is_over_at now) (drop i (live tokens)) ≡ first (is_over_at now) (live tokens) → Some serial ≡ serial_in (first (is_over_at now) tokens)
  first-found tokens now i serial placed at d over passed =
      let same = token-read tokens i serial at d in
      let here : is_over_at now at.token ≡ true = rw same over in
      let step : first (is_over_at now) (drop i (live tokens)) ≡ cond (is_over_at now at.token) (Some at.token) (first (is_over_at now) (drop (suc i) (live tokens))) =
      first-step (is_over_at now) (live tokens) i at.token at.nth in
      let found : first (is_over_at now) tokens ≡ Some at.token = sym (first-live now tokens) ∙ sym passed ∙ step ∙ ap (λ b. cond b (Some at.token) (first (is_over_at now) (drop (suc i) (live tokens)))) here in
      sym (ap serial_in found ∙ ap Some (placed-front tokens placed serial at.token at.found))

  pub first-passed : (tokens : List (Kept T)) (now i serial : ℕ) → (at : LiveAt tokens i serial) → (d : Kept T) → is_over now (get_or tokens serial d).state ≡ false
      → first (is_over_at now) (drop i (live tokens)) ≡ first (is_over_at now) (live tokens) → first (is_over_at now) (drop (i + 1) (live tokens)) ≡ first (is_over_at now) (live tokens)
  first-passed tokens now i serial at d over passed =
      let same = token-read tokens i serial at d in
      let here : is_over_at now at.token ≡ false = rw same over in
      let step : first (is_over_at now) (drop i (live tokens)) ≡ cond (is_over_at now at.token) (Some at.token) (first (is_over_at now) (drop (suc i) (live tokens))) =
      first-step (is_over_at now) (live tokens) i at.token at.nth in
      subst (λ j. first (is_over_at now) (drop j (live tokens)) ≡ first (is_over_at now) (live tokens)) (next i)
      (sym (ap (λ b. cond b (Some at.token) (first (is_over_at now) (drop (suc i) (live tokens)))) here) ∙ sym step ∙ passed)

  pub first-end : (tokens : List (Kept T)) (now i : ℕ) → length (live tokens) ≤ i
      → first (is_over_at now) (drop i (live tokens)) ≡ first (is_over_at now) (live tokens) → None ≡ serial_in (first (is_over_at now) tokens)
  first-end tokens now i all passed =
      let none : first (is_over_at now) tokens ≡ None = sym (first-live now tokens) ∙ sym passed ∙ ap (first (is_over_at now)) (drop_all i (live tokens) all) in
      sym (ap serial_in none)

  -- ---- none is over at the least end

  pub least-more : (tokens : List (Kept T)) (least less i serial : ℕ) → (at : LiveAt tokens i serial) → (d : Kept T) → less ≤ least → is_over less (get_or tokens serial d).state ≡ false
      → list_any (is_over_at least) (take i (live tokens)) ≡ false → list_any (is_over_at less) (take (i + 1) (live tokens)) ≡ false
  least-more tokens least less i serial at d low within none =
      let same = token-read tokens i serial at d in
      let here : is_over_at less at.token ≡ false = rw same within in
      subst (λ j. list_any (is_over_at less) (take j (live tokens)) ≡ false) (next i)
      (any-more (is_over_at less) (live tokens) i at.token at.nth
      (any-implies (is_over_at least) (is_over_at less) (λ y e. not_over-earlier least less low y.state e) (take i (live tokens)) none) here)

  pub least-all : (tokens : List (Kept T)) (least i : ℕ) → length (live tokens) ≤ i → list_any (is_over_at least) (take i (live tokens)) ≡ false → list_any (is_over_at least) tokens ≡ false
  least-all tokens least i all none = sym (any-live least tokens) ∙ sym (ap (list_any (is_over_at least)) (take_all i (live tokens) all)) ∙ none

  -- what holds of all live ones holds of each
  pub all-live-at : (p : Kept T → Bool) (tokens : List (Kept T)) → list_all p (live tokens) ≡ true → (k : ℕ) (x : Kept T) → slice_get tokens k ≡ Some x → is_live x.state ≡ true → p x ≡ true
  all-live-at p [] all k x found lives = absurd (grind arith)
  all-live-at p (y ∷ ys) all k x found lives = go (is_live y.state) refl all k found (λ g j at. all-live-at p ys g j x at lives)
    where
      go : (b : Bool) → is_live y.state ≡ b → list_all p (cond b (y ∷ live ys) (live ys)) ≡ true → (k : ℕ) → slice_get (y ∷ ys) k ≡ Some x
          → (list_all p (live ys) ≡ true → (j : ℕ) → slice_get ys j ≡ Some x → p x ≡ true) → p x ≡ true
      go true e g zero at behind = let same : y ≡ x = grind arith in rw (← same) (and-left (p y) (list_all p (live ys)) g)
      go true e g (suc k) at behind = behind (and-right (p y) (list_all p (live ys)) g) k at
      go false e g zero at behind = let same : y ≡ x = grind arith in let dead : is_live x.state ≡ false = rw (← same) e in cc
      go false e g (suc k) at behind = behind g k at
