-- Where two lists differ first
use Rattle.std.proofs.Common.{◌≡◌, ℕ, zero, suc, ◌+◌, ◌<◌, ◌≤◌, List, [], ◌∷◌, length, take, drop, refl, ap, sym, ◌∙◌, arith, true, false, Bool}
use Rattle.std.specs.Prelude.{◌==◌, min, option_map, Option, Some, None, slice_get, if◌then◌else◌}
use Rattle.std.proofs.lemmas.Bool.{eqb-true, eq-eqb}
use Rattle.std.proofs.lemmas.Bool.Decides.{nat_tests}
use Rattle.trace_check.specs.Verdict.{first_difference}

-- a place behind so many others
abbrev pub moved : ℕ → Option ℕ → Option ℕ
moved n found = option_map (λ place. n + place) found

moved-zero : (found : Option ℕ) → moved 0 found ≡ found
moved-zero None = refl
moved-zero (Some place) = let e : 0 + place ≡ place = omega arith in ap Some e

-- where the first items are equal, the first difference is behind them
abbrev pub IsSoFar : ℕ → List ℕ → List ℕ → Type 0
IsSoFar n xs ys = first_difference xs ys ≡ moved n (first_difference (drop n xs) (drop n ys))

pub so-far-first : (xs ys : List ℕ) → IsSoFar 0 xs ys
so-far-first xs ys = sym (moved-zero (first_difference xs ys))

-- one more item is equal
pub so-far-more : (n : ℕ) (xs ys : List ℕ) (x : ℕ) → IsSoFar n xs ys → slice_get xs n ≡ Some x → slice_get ys n ≡ Some x → IsSoFar (suc n) xs ys
so-far-more n xs ys x is a b = is ∙ ap (moved n) (step n xs ys a b) ∙ join n (first_difference (drop (suc n) xs) (drop (suc n) ys))
  where
    join : (m : ℕ) (found : Option ℕ) → moved m (option_map suc found) ≡ moved (suc m) found
    join m None = refl
    join m (Some place) = let e : m + suc place ≡ suc m + place = omega arith in ap Some e

    same : (k : ℕ) (t : Option ℕ) → (if k == k then t else Some 0) ≡ t
    same k t = let e : (k == k) ≡ true = eq-eqb k k refl in rw e refl

    step : (m : ℕ) (cs bs : List ℕ) → slice_get cs m ≡ Some x → slice_get bs m ≡ Some x
        → first_difference (drop m cs) (drop m bs) ≡ option_map suc (first_difference (drop (suc m) cs) (drop (suc m) bs))
    step zero (c ∷ cs) (d ∷ bs) p q = let e : c ≡ x = cc in let f : d ≡ x = cc in rw (e, f) (same x (option_map suc (first_difference cs bs)))
    step zero [] bs p q = cc
    step zero (c ∷ cs) [] p q = cc
    step (suc m) (c ∷ cs) (d ∷ bs) p q = step m cs bs p q
    step (suc m) [] bs p q = cc
    step (suc m) (c ∷ cs) [] p q = cc

-- the next items are not equal
pub differs-at : (n : ℕ) (xs ys : List ℕ) (x y : ℕ) → IsSoFar n xs ys → slice_get xs n ≡ Some x → slice_get ys n ≡ Some y → (x == y) ≡ false
    → first_difference xs ys ≡ Some n
differs-at n xs ys x y is a b other = is ∙ ap (moved n) (here n xs ys a b) ∙ (let e : n + 0 ≡ n = omega arith in ap Some e)
  where
    here : (m : ℕ) (cs bs : List ℕ) → slice_get cs m ≡ Some x → slice_get bs m ≡ Some y → first_difference (drop m cs) (drop m bs) ≡ Some 0
    here zero (c ∷ cs) (d ∷ bs) p q = let e : c ≡ x = cc in let f : d ≡ y = cc in rw (e, f, other) refl
    here zero [] bs p q = cc
    here zero (c ∷ cs) [] p q = cc
    here (suc m) (c ∷ cs) (d ∷ bs) p q = here m cs bs p q
    here (suc m) [] bs p q = cc
    here (suc m) (c ∷ cs) [] p q = cc

-- both ended, or one of them
pub ends-same : (n : ℕ) (xs ys : List ℕ) → IsSoFar n xs ys → length xs ≡ n → length ys ≡ n → first_difference xs ys ≡ None
ends-same n xs ys is a b = is ∙ ap (moved n) (here n xs ys a b)
  where
    here : (m : ℕ) (cs bs : List ℕ) → length cs ≡ m → length bs ≡ m → first_difference (drop m cs) (drop m bs) ≡ None
    here zero [] [] p q = refl
    here zero [] (d ∷ bs) p q = absurd (omega (arith, q))
    here zero (c ∷ cs) bs p q = absurd (omega (arith, p))
    here (suc m) (c ∷ cs) (d ∷ bs) p q = here m cs bs (omega (arith, p)) (omega (arith, q))
    here (suc m) [] bs p q = absurd (omega (arith, p))
    here (suc m) (c ∷ cs) [] p q = absurd (omega (arith, q))

pub ends-at : (n : ℕ) (xs ys : List ℕ) → IsSoFar n xs ys → min (length xs) (length ys) ≡ n → (length xs == length ys) ≡ false → first_difference xs ys ≡ Some n
ends-at n xs ys is least other = is ∙ ap (moved n) (here n xs ys least other) ∙ (let e : n + 0 ≡ n = omega arith in ap Some e)
  where
    here : (m : ℕ) (cs bs : List ℕ) → min (length cs) (length bs) ≡ m → (length cs == length bs) ≡ false → first_difference (drop m cs) (drop m bs) ≡ Some 0
    here zero [] [] p q = cc
    here zero [] (d ∷ bs) p q = refl
    here zero (c ∷ cs) [] p q = refl
    here zero (c ∷ cs) (d ∷ bs) p q = absurd (omega (arith, p))
    here (suc m) (c ∷ cs) (d ∷ bs) p q = here m cs bs (omega (arith, p)) (let no : (length (c ∷ cs) == length (d ∷ bs)) ≡ false = q in grind (arith, nat_tests))
    here (suc m) [] bs p q = absurd (omega (arith, p))
    here (suc m) (c ∷ cs) [] p q = absurd (omega (arith, p))

-- ---- what a difference says

abbrev nothing : List ℕ
nothing = []

pub same-none : (xs : List ℕ) → first_difference xs xs ≡ None
same-none [] = refl
same-none (x ∷ xs) = let e : (x == x) ≡ true = eq-eqb x x refl in rw (e, same-none xs) refl

none-behind : (found : Option ℕ) → option_map suc found ≡ None → found ≡ None
none-behind None e = refl
none-behind (Some place) e = cc

pub none-same : (xs ys : List ℕ) → first_difference xs ys ≡ None → xs ≡ ys
none-same [] [] e = refl
none-same [] (y ∷ ys) e = cc
none-same (x ∷ xs) [] e = cc
none-same (x ∷ xs) (y ∷ ys) e = go (x == y) refl e (none-same xs ys)
  where
    go : (t : Bool) → (x == y) ≡ t → (if t then option_map suc (first_difference xs ys) else Some 0) ≡ None → (first_difference xs ys ≡ None → xs ≡ ys) → x ∷ xs ≡ y ∷ ys
    go true same k later = let h : x ≡ y = eqb-true x y same in let rest = later (none-behind (first_difference xs ys) k) in rw (h, rest) refl
    go false other k later = cc

pub before-same : (xs ys : List ℕ) (place : ℕ) → first_difference xs ys ≡ Some place → take place xs ≡ take place ys
before-same [] [] place e = cc
before-same [] (y ∷ ys) place e = let h : place ≡ 0 = cc in rw h refl
before-same (x ∷ xs) [] place e = let h : place ≡ 0 = cc in rw h refl
before-same (x ∷ xs) (y ∷ ys) place e = go (x == y) refl e (before-same xs ys)
  where
    behind : (found : Option ℕ) → first_difference xs ys ≡ found → x ≡ y → option_map suc found ≡ Some place
        → ((p : ℕ) → first_difference xs ys ≡ Some p → take p xs ≡ take p ys) → take place (x ∷ xs) ≡ take place (y ∷ ys)
    behind None f h k later = cc
    behind (Some p) f h k later = let at : place ≡ suc p = cc in let rest = later p f in rw (at, h, rest) refl

    go : (t : Bool) → (x == y) ≡ t → (if t then option_map suc (first_difference xs ys) else Some 0) ≡ Some place
        → ((p : ℕ) → first_difference xs ys ≡ Some p → take p xs ≡ take p ys) → take place (x ∷ xs) ≡ take place (y ∷ ys)
    go true same k later = behind (first_difference xs ys) refl (eqb-true x y same) k later
    go false other k later = let h : place ≡ 0 = cc in rw h refl

pub there-other : (xs ys : List ℕ) (place : ℕ) → first_difference xs ys ≡ Some place → slice_get xs place ≡ slice_get ys place → ⊥
there-other [] [] place e s = cc
there-other [] (y ∷ ys) place e s =
    let at : place ≡ 0 = cc in
    let t : slice_get nothing 0 ≡ slice_get (y ∷ ys) 0 = ap (slice_get nothing) (sym at) ∙ s ∙ ap (slice_get (y ∷ ys)) at in
    cc
there-other (x ∷ xs) [] place e s =
    let at : place ≡ 0 = cc in
    let t : slice_get (x ∷ xs) 0 ≡ slice_get nothing 0 = ap (slice_get (x ∷ xs)) (sym at) ∙ s ∙ ap (slice_get nothing) at in
    cc
there-other (x ∷ xs) (y ∷ ys) place e s = go (x == y) refl e (there-other xs ys)
  where
    behind : (found : Option ℕ) → first_difference xs ys ≡ found → option_map suc found ≡ Some place
        → ((p : ℕ) → first_difference xs ys ≡ Some p → slice_get xs p ≡ slice_get ys p → ⊥) → ⊥
    behind None f k later = cc
    behind (Some p) f k later =
        let at : place ≡ suc p = cc in
        let same : slice_get (x ∷ xs) (suc p) ≡ slice_get (y ∷ ys) (suc p) = ap (slice_get (x ∷ xs)) (sym at) ∙ s ∙ ap (slice_get (y ∷ ys)) at in
        later p f same

    go : (t : Bool) → (x == y) ≡ t → (if t then option_map suc (first_difference xs ys) else Some 0) ≡ Some place
        → ((p : ℕ) → first_difference xs ys ≡ Some p → slice_get xs p ≡ slice_get ys p → ⊥) → ⊥
    go true same k later = behind (first_difference xs ys) refl k later
    go false other k later =
        let at : place ≡ 0 = cc in
        let t : slice_get (x ∷ xs) 0 ≡ slice_get (y ∷ ys) 0 = ap (slice_get (x ∷ xs)) (sym at) ∙ s ∙ ap (slice_get (y ∷ ys)) at in
        let same : x ≡ y = cc in
        let yes : (x == y) ≡ true = eq-eqb x y same in
        cc
