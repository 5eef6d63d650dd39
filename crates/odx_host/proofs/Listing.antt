-- Blocks and their items, part by part
use Rattle.std.proofs.Common.{◌≡◌, ℕ, zero, suc, ◌+◌, ◌≤◌, List, [], ◌∷◌, ◌++◌, length, take, drop, refl, ap, sym, ◌∙◌, arith, append_assoc, append-nil}
use Rattle.std.specs.Prelude.{flat_map}
use Rattle.lba_ranges.specs.Writings.{Held, paired}

-- the first blocks, and the next ones
pub paired-more : (q n : ℕ) (bs : List ℕ) (xs : List Held) → q ≤ length bs → q ≤ length xs
    → paired (take q bs) xs ++ paired (take n (drop q bs)) (take n (drop q xs)) ≡ paired (take (q + n) bs) xs
paired-more zero n bs xs a b = let e : 0 + n ≡ n = omega arith in rw e (paired-front n bs xs)
  where
    paired-front : (n : ℕ) (bs : List ℕ) (xs : List Held) → paired (take n bs) (take n xs) ≡ paired (take n bs) xs
    paired-front zero bs xs = refl
    paired-front (suc n) [] xs = refl
    paired-front (suc n) (b ∷ bs) [] = refl
    paired-front (suc n) (b ∷ bs) (x ∷ xs) = ap (λ l. record { block = b; held = x } ∷ l) (paired-front n bs xs)
paired-more (suc q) n [] xs a b = absurd (omega arith)
paired-more (suc q) n (c ∷ bs) [] a b = absurd (omega arith)
paired-more (suc q) n (c ∷ bs) (x ∷ xs) a b =
    let e : suc q + n ≡ suc (q + n) = omega arith in
    rw e (ap (λ l. record { block = c; held = x } ∷ l) (paired-more q n bs xs (omega arith) (omega arith)))

-- items that are left over give nothing
pub paired-short : (bs : List ℕ) (xs ys : List Held) → length bs ≤ length xs → paired bs (xs ++ ys) ≡ paired bs xs
paired-short [] xs ys h = refl
paired-short (b ∷ bs) [] ys h = absurd (omega arith)
paired-short (b ∷ bs) (x ∷ xs) ys h = ap (λ l. record { block = b; held = x } ∷ l) (paired-short bs xs ys (omega arith))

pub take-add : {X : Type 0} (q n : ℕ) (xs : List X) → take q xs ++ take n (drop q xs) ≡ take (q + n) xs
take-add zero n xs = let e : 0 + n ≡ n = omega arith in rw e refl
take-add (suc q) zero [] = let e : suc q + 0 ≡ suc q = omega arith in rw e refl
take-add (suc q) (suc n) [] = let e : suc q + suc n ≡ suc (q + suc n) = omega arith in rw e refl
take-add (suc q) n (x ∷ xs) = let e : suc q + n ≡ suc (q + n) = omega arith in rw e (ap (λ l. x ∷ l) (take-add q n xs))

-- what lies in the later of two lists
pub drop-later : {X : Type 0} (xs ys : List X) (off : ℕ) → drop (length xs + off) (xs ++ ys) ≡ drop off ys
drop-later [] ys off = let e : 0 + off ≡ off = omega arith in rw e refl
drop-later (x ∷ xs) ys off = let e : suc (length xs) + off ≡ suc (length xs + off) = omega arith in rw e (drop-later xs ys off)

pub flat-push : {X Y : Type 0} (f : X → List Y) (xs : List X) (x : X) → flat_map f (xs ++ x ∷ []) ≡ flat_map f xs ++ f x
flat-push f [] x = append-nil (f x)
flat-push f (y ∷ ys) x = ap (λ l. f y ++ l) (flat-push f ys x) ∙ sym (append_assoc (f y) (flat_map f ys) (f x))
