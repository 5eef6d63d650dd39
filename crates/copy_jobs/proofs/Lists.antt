-- Tests over lists
use Rattle.std.proofs.Common.{◌≡◌, ℕ, zero, suc, List, [], ◌∷◌, ◌++◌, take, refl, true, false, Bool}
use Rattle.std.specs.Prelude.{◌||◌, filter, cond}
use Rattle.std.specs.List.{list_any}

pub or_first : (a b : Bool) → (a || b) ≡ false → a ≡ false
or_first true b e = cc
or_first false b e = refl

pub or_later : (a b : Bool) → (a || b) ≡ false → b ≡ false
or_later true b e = cc
or_later false b e = e

pub any-take : {X : Type 0} (p : X → Bool) (n : ℕ) (xs : List X) → list_any p xs ≡ false → list_any p (take n xs) ≡ false
any-take p zero xs e = refl
any-take p (suc n) [] e = refl
any-take p (suc n) (x ∷ xs) e =
    let here : p x ≡ false = or_first (p x) (list_any p xs) e in
    let later : list_any p (take n xs) ≡ false = any-take p n xs (or_later (p x) (list_any p xs) e) in
    rw (here, later) refl

pub any-filter : {X : Type 0} (p q : X → Bool) (xs : List X) → list_any p xs ≡ false → list_any p (filter q xs) ≡ false
any-filter p q [] e = refl
any-filter p q (x ∷ xs) e = go (q x) (any-filter p q xs (or_later (p x) (list_any p xs) e))
  where
    go : (t : Bool) → list_any p (filter q xs) ≡ false → list_any p (cond t (x ∷ filter q xs) (filter q xs)) ≡ false
    go true later = let here : p x ≡ false = or_first (p x) (list_any p xs) e in rw (here, later) refl
    go false later = later

pub any-append : {X : Type 0} (p : X → Bool) (xs ys : List X) → list_any p xs ≡ false → list_any p ys ≡ false → list_any p (xs ++ ys) ≡ false
any-append p [] ys e f = f
any-append p (x ∷ xs) ys e f =
    let here : p x ≡ false = or_first (p x) (list_any p xs) e in
    let later : list_any p (xs ++ ys) ≡ false = any-append p xs ys (or_later (p x) (list_any p xs) e) f in
    rw (here, later) refl
