-- Tokens that stand each at the place of its serial
use Rattle.std.proofs.Common.{◌≡◌, ℕ, zero, suc, ◌+◌, ◌<◌, ◌≤◌, ◌^◌, ◌≢◌, List, [], ◌∷◌, ◌++◌, map, length, set, drop, take, refl, ap, ◌∙◌, arith, true, false, Bool, cond, slice_get, Some, None, eqb, eq-eqb, ◌⊎◌, inl, inr}
use Rattle.std.proofs.lemmas.Option.{slice_get_within}
use Rattle.std.proofs.lemmas.Bool.{cases_Bool, eqb-true}
use Rattle.std.specs.Prelude.{◌||◌, ◌&&◌}
use Rattle.std.specs.List.{list_any, list_all}
use Rattle.rod_store.specs.declared.kept.Kept.{Kept}
use Rattle.rod_store.specs.Kept.{IsPlaced, first}

pub next : (i : ℕ) → suc i ≡ i + 1
next i = omega arith

pub same_or_not : (a b : ℕ) → (a ≡ b) ⊎ (a ≢ b)
same_or_not a b = go (cases_Bool (eqb a b))
  where
    go : (eqb a b ≡ true) ⊎ (eqb a b ≡ false) → (a ≡ b) ⊎ (a ≢ b)
    go (inl e) = inl (eqb-true a b e)
    go (inr e) = inr (λ same. let t : eqb a b ≡ true = eq-eqb a b same in cc)

module _ {T : Type 0} where
  pub placed-at : (n : ℕ) (tokens : List (Kept T)) → IsPlaced n tokens → (k : ℕ) (t : Kept T) → slice_get tokens k ≡ Some t → t.serial ≡ n + k
  placed-at n [] placed k t found = absurd (grind arith)
  placed-at n (x ∷ xs) placed zero t found = let same : x ≡ t = grind arith in let head : x.serial ≡ n = placed.0 in rw (← same) (omega arith)
  placed-at n (x ∷ xs) placed (suc k) t found = let later : t.serial ≡ suc n + k = placed-at (suc n) xs placed.1 k t found in omega arith

  pub placed-push : (n : ℕ) (tokens : List (Kept T)) (y : Kept T) → IsPlaced n tokens → y.serial ≡ n + length tokens → IsPlaced n (tokens ++ y ∷ [])
  placed-push n [] y placed next = (omega arith, tt)
  placed-push n (x ∷ xs) y placed next = (placed.0, placed-push (suc n) xs y placed.1 (omega arith))

  pub placed-map : (f : Kept T → Kept T) → ((x : Kept T) → (f x).serial ≡ x.serial) → (n : ℕ) (tokens : List (Kept T)) → IsPlaced n tokens → IsPlaced n (map f tokens)
  placed-map f keeps n [] placed = tt
  placed-map f keeps n (x ∷ xs) placed = (keeps x ∙ placed.0, placed-map f keeps (suc n) xs placed.1)

  -- what changes only the token of a serial changes none behind it
  pub map-behind : (f : Kept T → Kept T) (serial : ℕ) → ((x : Kept T) → x.serial ≢ serial → f x ≡ x) → (n : ℕ) (tokens : List (Kept T)) → IsPlaced n tokens → serial < n → map f tokens ≡ tokens
  map-behind f serial others n [] placed low = refl
  map-behind f serial others n (x ∷ xs) placed low =
      let at : x.serial ≡ n = placed.0 in
      let head : f x ≡ x = others x (λ e. omega arith) in
      let rest : map f xs ≡ xs = map-behind f serial others (suc n) xs placed.1 (omega arith) in
      cc

  -- and is one write at its place
  pub map-set_at : (f : Kept T → Kept T) (serial : ℕ) → ((x : Kept T) → x.serial ≢ serial → f x ≡ x) → (n : ℕ) (tokens : List (Kept T)) → IsPlaced n tokens
      → (k : ℕ) (t : Kept T) → serial ≡ n + k → slice_get tokens k ≡ Some t → set tokens k (f t) ≡ map f tokens
  map-set_at f serial others n [] placed k t at found = absurd (grind arith)
  map-set_at f serial others n (x ∷ xs) placed zero t at found =
      let same : x ≡ t = grind arith in
      let rest : map f xs ≡ xs = map-behind f serial others (suc n) xs placed.1 (omega arith) in
      cc
  map-set_at f serial others n (x ∷ xs) placed (suc k) t at found =
      let here : x.serial ≡ n = placed.0 in
      let head : f x ≡ x = others x (λ e. omega arith) in
      let rest : set xs k (f t) ≡ map f xs = map-set_at f serial others (suc n) xs placed.1 k t (omega arith) found in
      cc

  -- two maps that agree at each place
  pub map-agree : (f g : Kept T → Kept T) (tokens : List (Kept T)) → ((k : ℕ) (x : Kept T) → slice_get tokens k ≡ Some x → f x ≡ g x) → map f tokens ≡ map g tokens
  map-agree f g [] agree = refl
  map-agree f g (x ∷ xs) agree =
      let head : f x ≡ g x = agree 0 x refl in
      let rest : map f xs ≡ map g xs = map-agree f g xs (λ k y found. agree (suc k) y found) in
      cc

  pub map-same : (f : Kept T → Kept T) (tokens : List (Kept T)) → ((k : ℕ) (x : Kept T) → slice_get tokens k ≡ Some x → f x ≡ x) → map f tokens ≡ tokens
  map-same f [] same = refl
  map-same f (x ∷ xs) same =
      let head : f x ≡ x = same 0 x refl in
      let rest : map f xs ≡ xs = map-same f xs (λ k y found. same (suc k) y found) in
      cc

  -- ---- the first for which a test holds

  pub first-at : (p : Kept T → Bool) (n : ℕ) (tokens : List (Kept T)) → IsPlaced n tokens → (t : Kept T) → first p tokens ≡ Some t
      → (k : ℕ) × (t.serial ≡ n + k) × (slice_get tokens k ≡ Some t) × (p t ≡ true)
  first-at p n [] placed t found = absurd (grind arith)
  first-at p n (x ∷ xs) placed t found = go (p x) refl found (first-at p (suc n) xs placed.1 t)
    where
      go : (b : Bool) → p x ≡ b → cond b (Some x) (first p xs) ≡ Some t → (first p xs ≡ Some t → (k : ℕ) × (t.serial ≡ suc n + k) × (slice_get xs k ≡ Some t) × (p t ≡ true))
          → (k : ℕ) × (t.serial ≡ n + k) × (slice_get (x ∷ xs) k ≡ Some t) × (p t ≡ true)
      go true holds f behind = let same : x ≡ t = grind arith in let here : x.serial ≡ n = placed.0 in (0, rw (← same) (omega arith), ap Some same, rw (← same) holds)
      go false fails f behind = let later = behind f in (suc later.0, (let at : t.serial ≡ suc n + later.0 = later.1 in omega arith), later.2, later.3)

  pub first-is : (p : Kept T → Bool) (tokens : List (Kept T)) (k : ℕ) (t : Kept T) → slice_get tokens k ≡ Some t → p t ≡ true
      → ((j : ℕ) (x : Kept T) → slice_get tokens j ≡ Some x → j ≢ k → p x ≡ false) → first p tokens ≡ Some t
  first-is p [] k t found holds others = absurd (grind arith)
  first-is p (x ∷ xs) zero t found holds others = let same : x ≡ t = grind arith in let here : p x ≡ true = rw same holds in rw here (ap Some same)
  first-is p (x ∷ xs) (suc k) t found holds others =
      let here : p x ≡ false = others 0 x refl (λ e. omega arith) in
      rw here (first-is p xs k t found holds (λ j y at other. others (suc j) y at (λ e. other (omega arith))))

  pub first-none : (p : Kept T → Bool) (tokens : List (Kept T)) → ((j : ℕ) (x : Kept T) → slice_get tokens j ≡ Some x → p x ≡ false) → first p tokens ≡ None
  first-none p [] others = refl
  first-none p (x ∷ xs) others = let here : p x ≡ false = others 0 x refl in rw here (first-none p xs (λ j y at. others (suc j) y at))

  pub first-step : (p : Kept T → Bool) (tokens : List (Kept T)) (i : ℕ) (t : Kept T) → slice_get tokens i ≡ Some t
      → first p (drop i tokens) ≡ cond (p t) (Some t) (first p (drop (suc i) tokens))
  first-step p [] i t found = absurd (grind arith)
  first-step p (x ∷ xs) zero t found = let same : x ≡ t = grind arith in rw same refl
  first-step p (x ∷ xs) (suc i) t found = first-step p xs i t found

  -- ---- tests along a list

  pub any-set : (p : Kept T → Bool) (tokens : List (Kept T)) (k : ℕ) (y : Kept T) → list_any p tokens ≡ false → p y ≡ false → list_any p (set tokens k y) ≡ false
  any-set p [] k y none fails = refl
  any-set p (x ∷ xs) k y none fails = go (p x) refl none k (λ j e. any-set p xs j y e fails)
    where
      go : (b : Bool) → p x ≡ b → (b || list_any p xs) ≡ false → (k : ℕ) → ((j : ℕ) → list_any p xs ≡ false → list_any p (set xs j y) ≡ false) → list_any p (set (x ∷ xs) k y) ≡ false
      go true e f k rest = cc
      go false e f zero rest = rw fails f
      go false e f (suc k) rest = rw e (rest k f)

  pub any-more : (p : Kept T → Bool) (tokens : List (Kept T)) (i : ℕ) (t : Kept T) → slice_get tokens i ≡ Some t → list_any p (take i tokens) ≡ false → p t ≡ false
      → list_any p (take (suc i) tokens) ≡ false
  any-more p [] i t found none fails = refl
  any-more p (x ∷ xs) zero t found none fails = let same : x ≡ t = grind arith in rw (same, fails) refl
  any-more p (x ∷ xs) (suc i) t found none fails = go (p x) none (λ e. any-more p xs i t found e fails)
    where
      go : (b : Bool) → (b || list_any p (take i xs)) ≡ false → (list_any p (take i xs) ≡ false → list_any p (take (suc i) xs) ≡ false) → (b || list_any p (take (suc i) xs)) ≡ false
      go true e rest = e
      go false e rest = rest e

  pub all-more : (p : Kept T → Bool) (tokens : List (Kept T)) (i : ℕ) (t : Kept T) → slice_get tokens i ≡ Some t → list_all p (take i tokens) ≡ true → p t ≡ true
      → list_all p (take (suc i) tokens) ≡ true
  all-more p [] i t found all holds = refl
  all-more p (x ∷ xs) zero t found all holds = let same : x ≡ t = grind arith in rw (same, holds) refl
  all-more p (x ∷ xs) (suc i) t found all holds = go (p x) all (λ e. all-more p xs i t found e holds)
    where
      go : (b : Bool) → (b && list_all p (take i xs)) ≡ true → (list_all p (take i xs) ≡ true → list_all p (take (suc i) xs) ≡ true) → (b && list_all p (take (suc i) xs)) ≡ true
      go true e rest = rest e
      go false e rest = e

  pub all-implies : (p q : Kept T → Bool) → ((x : Kept T) → p x ≡ true → q x ≡ true) → (tokens : List (Kept T)) → list_all p tokens ≡ true → list_all q tokens ≡ true
  all-implies p q implies [] all = refl
  all-implies p q implies (x ∷ xs) all = go (p x) refl all (all-implies p q implies xs)
    where
      go : (b : Bool) → p x ≡ b → (b && list_all p xs) ≡ true → (list_all p xs ≡ true → list_all q xs ≡ true) → list_all q (x ∷ xs) ≡ true
      go true holds e rest = rw (implies x holds) (rest e)
      go false fails e rest = cc

  pub any-implies : (p q : Kept T → Bool) → ((x : Kept T) → p x ≡ false → q x ≡ false) → (tokens : List (Kept T)) → list_any p tokens ≡ false → list_any q tokens ≡ false
  any-implies p q implies [] none = refl
  any-implies p q implies (x ∷ xs) none = go (p x) refl none (any-implies p q implies xs)
    where
      go : (b : Bool) → p x ≡ b → (b || list_any p xs) ≡ false → (list_any p xs ≡ false → list_any q xs ≡ false) → list_any q (x ∷ xs) ≡ false
      go true holds e rest = cc
      go false fails e rest = rw (implies x fails) (rest e)

  pub placed-front : (tokens : List (Kept T)) → IsPlaced 0 tokens → (k : ℕ) (t : Kept T) → slice_get tokens k ≡ Some t → t.serial ≡ k
  placed-front tokens placed k t found = let at : t.serial ≡ 0 + k = placed-at 0 tokens placed k t found in omega arith

  pub small-serial : (tokens : List (Kept T)) → IsPlaced 0 tokens → length tokens ≤ 2 ^ 48 → (k : ℕ) (t : Kept T) → slice_get tokens k ≡ Some t → t.serial < 2 ^ 48
  small-serial tokens placed many k t found =
      let at = placed-front tokens placed k t found in
      let low = slice_get_within tokens k t found in
      omega arith
