-- A list in which each item is changed, one after another
use Rattle.std.proofs.Common.{◌≡◌, ℕ, zero, suc, ◌+◌, ◌<◌, List, [], ◌∷◌, ◌++◌, length, get_or, take, drop, refl, ap, arith}
use Rattle.std.specs.Prelude.{map, slice_set}

-- one more is changed
pub map-more : {X : Type 0} (f : X → X) (xs : List X) (i : ℕ) (d : X) → i < length xs
    → let now = map f (take i xs) ++ drop i xs in
    slice_set now i (f (get_or now i d)) ≡ map f (take (i + 1) xs) ++ drop (i + 1) xs
map-more f [] i d h = absurd (omega arith)
map-more f (x ∷ xs) zero d h = refl
map-more f (x ∷ xs) (suc i) d h = let e : suc i + 1 ≡ suc (i + 1) = omega arith in rw e (ap (λ l. f x ∷ l) (map-more f xs i d (omega arith)))
