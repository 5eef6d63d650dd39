-- A row of blocks that is written
use Rattle.std.proofs.Common.{◌≡◌, ℕ, zero, suc, ◌+◌, ◌-◌, ◌<◌, ◌≤◌, List, [], ◌∷◌, length, refl, ap, sym, ◌∙◌, subst, arith, true, false, cond, inl, inr, eqb, leb, ltb}
use Rattle.std.specs.Prelude.{Option, Some, None, IsSome, ◌⊎◌, ◌&&◌}
use Rattle.std.proofs.lemmas.Bool.{cases_lt, cases_eq, ne_eqb}
use Rattle.std.proofs.lemmas.Bool.Decides.{nat_tests}
use Rattle.lba_ranges.specs.HeldBlocks.{filled, held_at}
use Rattle.lba_ranges.specs.Denoted.{row}
use Rattle.lba_ranges.specs.Writings.{Held, paired, unmapped, after}
use Rattle.lba_ranges.specs.declared.fill.Piece.{Piece}
use Rattle.lba_ranges.proofs.PublicLaws.{length-filled, held_at-hole, after-unmapped_row}
use Rattle.lun_extents.specs.Extents.{held_or, held_from}
use Rattle.lun_extents.specs.inner.Extents.{emptied}
use Rattle.lun_extents.proofs.Nearest.{IsRun, run-inside, run-below, run-above, same-below, same-above}

pub row-outside : (lba n : ℕ) (xs : List Held) (b : ℕ) (was : Held) → (b < lba) ⊎ (lba + n ≤ b) → after (paired (row lba n) xs) b was ≡ was
row-outside lba zero xs b was out = refl
row-outside lba (suc n) [] b was out = refl
row-outside lba (suc n) (x ∷ xs) b was out =
    let other : eqb lba b ≡ false = ne_eqb lba b (λ same. go same out) in
    ap (λ t. after (paired (row (suc lba) n) xs) b (cond t x was)) other ∙ row-outside (suc lba) n xs b was (less out)
  where
    go : lba ≡ b → (b < lba) ⊎ (lba + suc n ≤ b) → ⊥
    go same (inl low) = omega arith
    go same (inr high) = omega arith

    less : (b < lba) ⊎ (lba + suc n ≤ b) → (b < suc lba) ⊎ (suc lba + n ≤ b)
    less (inl low) = inl (omega arith)
    less (inr high) = inr (omega arith)

pub row-inside : (lba n : ℕ) (xs : List Held) (i : ℕ) (was : Held) → length xs ≡ n → i < n → after (paired (row lba n) xs) (lba + i) was ≡ held_at xs i
row-inside lba zero xs i was len low = absurd (omega arith)
row-inside lba (suc n) [] i was len low = absurd (omega arith)
row-inside lba (suc n) (x ∷ xs) zero was len low =
    let same : eqb lba (lba + 0) ≡ true = grind (arith, nat_tests) in
    let first : (lba + 0 < suc lba) ⊎ (suc lba + n ≤ lba + 0) = inl (omega arith) in
    ap (λ t. after (paired (row (suc lba) n) xs) (lba + 0) (cond t x was)) same ∙ row-outside (suc lba) n xs (lba + 0) x first
row-inside lba (suc n) (x ∷ xs) (suc i) was len low =
    let e : lba + suc i ≡ suc lba + i = omega arith in
    rw e (row-inside (suc lba) n xs i (cond (eqb lba (suc lba + i)) x was) (omega arith) (omega arith))

-- a run that is set is written to its row
pub set-held : (size : ℕ) (f g : ℕ → Option Piece) (lba : ℕ) (p : Piece) → IsRun f g lba p.count p → (b : ℕ)
    → held_from size g b 0 ≡ after (paired (row lba p.count) (filled size p.count p.fill)) b (held_from size f b 0)
set-held size f g lba p is b = go (cases_lt b lba) (cases_lt b (lba + p.count))
  where
    go : (b < lba) ⊎ (lba ≤ b) → (b < lba + p.count) ⊎ (lba + p.count ≤ b)
        → held_from size g b 0 ≡ after (paired (row lba p.count) (filled size p.count p.fill)) b (held_from size f b 0)
    go (inl low) _ = run-below size f g lba p.count p is b low ∙ sym (row-outside lba p.count (filled size p.count p.fill) b (held_from size f b 0) (inl low))
    go (inr _) (inr high) = run-above size f g lba p.count p is b high ∙ sym (row-outside lba p.count (filled size p.count p.fill) b (held_from size f b 0) (inr high))
    go (inr from) (inl to) =
        let e : lba + (b - lba) ≡ b = omega arith in
        let less : b - lba < p.count = omega arith in
        let P : ℕ → Type 0 = λ n. held_from size g n 0 ≡ after (paired (row lba p.count) (filled size p.count p.fill)) n (held_from size f b 0) in
        subst P e (run-inside size f g lba p.count p is (b - lba) less ∙ sym (row-inside lba p.count (filled size p.count p.fill) (b - lba) (held_from size f b 0) (length-filled size p.count p.fill) less))

-- ---- extents that are made to hold nothing

empty_extents-none : (size e : ℕ) (x : Option Piece) (below : Held) → below ≡ None → held_or size e (emptied x) below ≡ None
empty_extents-none size e None below is = is
empty_extents-none size e (Some p) below is = held_at-hole 0 e

empty_extents-some : (size e : ℕ) (x : Option Piece) (below : Held) → IsSome (emptied x) → held_or size e (emptied x) below ≡ None
empty_extents-some size e None below some = cc
empty_extents-some size e (Some p) below some = held_at-hole 0 e

pub from-empty_extents : (size : ℕ) (f g : ℕ → Option Piece) (a k e : ℕ) → a ≤ k → IsSome (g a) → ((j : ℕ) → a ≤ j → j ≤ k → g j ≡ emptied (f j)) → held_from size g k e ≡ None
from-empty_extents size f g a zero e low some is = ap (λ x. held_or size e x None) (is 0 low (omega arith)) ∙ empty_extents-none size e (f 0) None refl
from-empty_extents size f g a (suc k) e low some is = ap (λ x. held_or size e x (held_from size g k (suc e))) here ∙ go (λ less. from-empty_extents size f g a k (suc e) less some (λ j x y. is j x (omega arith))) (cases_eq a (suc k))
  where
    here : g (suc k) ≡ emptied (f (suc k))
    here = is (suc k) low (omega arith)

    go : (a ≤ k → held_from size g k (suc e) ≡ None) → (a ≡ suc k) ⊎ (a ≡ suc k → ⊥) → held_or size e (emptied (f (suc k))) (held_from size g k (suc e)) ≡ None
    go rest (inl same) = empty_extents-some size e (f (suc k)) _ (subst (λ x. IsSome x) here (subst (λ n. IsSome (g n)) same some))
    go rest (inr other) = empty_extents-none size e (f (suc k)) _ (rest (omega arith))

-- a row between two places where extents begin, whose extents are made to hold nothing
pub record IsHollow (f g : ℕ → Option Piece) (a n : ℕ) : Type 0 where
  pub inside : (j : ℕ) → a ≤ j → j < a + n → g j ≡ emptied (f j)
  pub below : (j : ℕ) → j < a → g j ≡ f j
  pub above : (j : ℕ) → a + n ≤ j → g j ≡ f j
  pub start : IsSome (f a)
  pub end : IsSome (f (a + n))

still-some : (x : Option Piece) → IsSome x → IsSome (emptied x)
still-some None some = some
still-some (Some p) some = refl

pub empty_extents-kept : (f g : ℕ → Option Piece) (a n : ℕ) → IsHollow f g a n → (b : ℕ) → IsSome (f b) → IsSome (g b)
empty_extents-kept f g a n is b some = go (cases_lt b a) (cases_lt b (a + n))
  where
    go : (b < a) ⊎ (a ≤ b) → (b < a + n) ⊎ (a + n ≤ b) → IsSome (g b)
    go (inl low) _ = subst (λ x. IsSome x) (sym (is.below b low)) some
    go (inr _) (inr high) = subst (λ x. IsSome x) (sym (is.above b high)) some
    go (inr from) (inl to) = subst (λ x. IsSome x) (sym (is.inside b from to)) (still-some (f b) some)

pub empty_extents-held : (size : ℕ) (f g : ℕ → Option Piece) (a n : ℕ) → IsHollow f g a n → (b : ℕ) → held_from size g b 0 ≡ after (unmapped (row a n)) b (held_from size f b 0)
empty_extents-held size f g a n is b = go (cases_lt b a) (cases_lt b (a + n)) ∙ sym (after-unmapped_row a n b (held_from size f b 0))
  where
    go : (b < a) ⊎ (a ≤ b) → (b < a + n) ⊎ (a + n ≤ b) → held_from size g b 0 ≡ cond (leb a b && ltb b (a + n)) None (held_from size f b 0)
    go (inl low) _ = let out : (leb a b && ltb b (a + n)) ≡ false = grind (arith, nat_tests) in rw out (same-below size f g b 0 (λ j h. is.below j (omega arith)))
    go (inr _) (inr high) = let out : (leb a b && ltb b (a + n)) ≡ false = grind (arith, nat_tests) in rw out (same-above size f g (a + n) b 0 high is.end (λ j x y. is.above j x))
    go (inr from) (inl to) =
        let inside : (leb a b && ltb b (a + n)) ≡ true = grind (arith, nat_tests) in
        rw inside (from-empty_extents size f g a b 0 from (empty_extents-kept f g a n is a is.start) (λ j x y. is.inside j x (omega arith)))
