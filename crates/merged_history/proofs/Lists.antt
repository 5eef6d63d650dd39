-- Lists with one element more
use Rattle.std.proofs.Common.{◌≡◌, ℕ, zero, suc, ◌<◌, List, [], ◌∷◌, ◌++◌, length, refl, arith, inl, inr}
use Rattle.std.specs.Prelude.{◌⊎◌, slice_get, Some}
use mathlib.Core.Option.{some}
use lib.ListN.{get_elem?}

pub get-low : {X : Type 0} (xs : List X) (i : ℕ) (x : X) → slice_get xs i ≡ Some x → i < length xs
get-low [] i x e = cc
get-low (y ∷ ys) zero x e = omega arith
get-low (y ∷ ys) (suc i) x e = let low = get-low ys i x e in omega (arith, low)

pub get-front : {X : Type 0} (xs ys : List X) (i : ℕ) (x : X) → slice_get xs i ≡ Some x → slice_get (xs ++ ys) i ≡ Some x
get-front [] ys i x e = cc
get-front (z ∷ zs) ys zero x e = e
get-front (z ∷ zs) ys (suc i) x e = get-front zs ys i x e

pub get-last : {X : Type 0} (xs : List X) (x : X) → slice_get (xs ++ x ∷ []) (length xs) ≡ Some x
get-last [] x = refl
get-last (y ∷ ys) x = get-last ys x

pub snoc-at : {X : Type 0} (xs : List X) (x v : X) (i : ℕ) → get_elem? (xs ++ x ∷ []) i ≡ some v → (get_elem? xs i ≡ some v) ⊎ ((i ≡ length xs) × (x ≡ v))
snoc-at [] x v zero e = inr (refl, cc)
snoc-at [] x v (suc i) e = cc
snoc-at (y ∷ ys) x v zero e = inl e
snoc-at (y ∷ ys) x v (suc i) e = go (snoc-at ys x v i e)
  where
    go : (get_elem? ys i ≡ some v) ⊎ ((i ≡ length ys) × (x ≡ v)) → (get_elem? ys i ≡ some v) ⊎ ((suc i ≡ suc (length ys)) × (x ≡ v))
    go (inl old) = inl old
    go (inr new) = let at = new.0 in inr (omega (arith, at), new.1)
