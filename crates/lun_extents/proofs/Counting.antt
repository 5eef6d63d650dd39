-- How many blocks of a row are mapped
use Rattle.std.proofs.Common.{◌≡◌, ℕ, zero, suc, ◌+◌, ◌-◌, ◌<◌, ◌≤◌, List, [], ◌∷◌, ◌++◌, refl, ap, sym, ◌∙◌, subst, arith, true, false, Bool, cond, inl, inr, leb, ltb}
use Rattle.std.specs.Prelude.{None, is_some, ◌⊎◌, ◌&&◌}
use Rattle.std.proofs.lemmas.Bool.Decides.{nat_tests}
use Rattle.lba_ranges.specs.HeldBlocks.{filled, held_at}
use Rattle.lba_ranges.specs.declared.fill.Fill.{Fill}
use Rattle.lba_ranges.specs.declared.fill.Fill.TheVariants.{Hole, Bytes}
use Rattle.lba_ranges.proofs.PublicLaws.{length-filled, held_at-cut, held_at-hole, mapped-same, after-unmapped_row}
use Rattle.lba_ranges.specs.Denoted.{row}
use Rattle.lba_ranges.specs.Writings.{Held, paired, unmapped, after, mapped_below, mapped_among}
use Rattle.lun_extents.specs.inner.Runs.{is_mapped}
use Rattle.lun_extents.proofs.Written.{row-outside, row-inside}

pub row-append : (lba n m : ℕ) → row lba (n + m) ≡ row lba n ++ row (lba + n) m
row-append lba zero m = let e : 0 + m ≡ m = omega arith in let f : lba + 0 ≡ lba = omega arith in rw (e, f) refl
row-append lba (suc n) m =
    let e : suc n + m ≡ suc (n + m) = omega arith in
    let f : lba + suc n ≡ suc lba + n = omega arith in
    rw (e, f) (ap (λ bs. lba ∷ bs) (row-append (suc lba) n m))

among-append : (f : ℕ → Held) (xs ys : List ℕ) → mapped_among f (xs ++ ys) ≡ mapped_among f xs + mapped_among f ys
among-append f [] ys = let e : 0 + mapped_among f ys ≡ mapped_among f ys = omega arith in sym e
among-append f (x ∷ xs) ys = let rest = among-append f xs ys in omega arith

-- a row of blocks that are all mapped, or all unmapped
pub among-alike : (f : ℕ → Held) (a n : ℕ) (t : Bool) → ((b : ℕ) → a ≤ b → b < a + n → is_some (f b) ≡ t) → mapped_among f (row a n) ≡ cond t n 0
among-alike f a zero true alike = refl
among-alike f a zero false alike = refl
among-alike f a (suc n) t alike =
    let here : is_some (f a) ≡ t = alike a (omega arith) (omega arith) in
    let rest = among-alike f (suc a) n t (λ b low high. alike b (omega arith) (omega arith)) in
    rw (here, rest) (go t)
  where
    go : (u : Bool) → (cond u 1 0) + cond u n 0 ≡ cond u (suc n) 0
    go true = omega arith
    go false = omega arith

-- a run of a row more
pub among-more : (f : ℕ → Held) (lba from end done : ℕ) (t : Bool) → lba ≤ from → from ≤ end → done ≡ mapped_among f (row lba (from - lba))
    → ((b : ℕ) → from ≤ b → b < end → is_some (f b) ≡ t) → done + cond t (end - from) 0 ≡ mapped_among f (row lba (end - lba))
among-more f lba from end done t low high so alike =
    let sum : end - lba ≡ (from - lba) + (end - from) = omega arith in
    let start : lba + (from - lba) ≡ from = omega arith in
    let rest : mapped_among f (row from (end - from)) ≡ cond t (end - from) 0 = among-alike f from (end - from) t (λ b l h. alike b l (omega arith)) in
    let joined : mapped_among f (row lba (end - lba)) ≡ mapped_among f (row lba (from - lba)) + mapped_among f (row from (end - from)) =
    ap (λ n. mapped_among f (row lba n)) sum ∙ ap (mapped_among f) (row-append lba (from - lba) (end - from)) ∙ among-append f (row lba (from - lba)) (row (lba + (from - lba)) (end - from))
    ∙ ap (λ s. mapped_among f (row lba (from - lba)) + mapped_among f (row s (end - from))) start in
    omega arith

mapped-row : (f : ℕ → Held) (a n : ℕ) → mapped_below (a + n) f ≡ mapped_below a f + mapped_among f (row a n)
mapped-row f a zero = let e : a + 0 ≡ a = omega arith in rw e (omega arith)
mapped-row f a (suc n) =
    let e : a + suc n ≡ suc a + n = omega arith in
    let rest = mapped-row f (suc a) n in
    ap (λ m. mapped_below m f) e ∙ rest ∙ omega arith

among-same : (f g : ℕ → Held) (a n : ℕ) → ((b : ℕ) → a ≤ b → g b ≡ f b) → mapped_among g (row a n) ≡ mapped_among f (row a n)
among-same f g a zero same = refl
among-same f g a (suc n) same = rw (same a (omega arith), among-same f g (suc a) n (λ b low. same b (omega arith))) refl

split : (n : ℕ) (f : ℕ → Held) (a m : ℕ) → a + m ≤ n → mapped_below n f ≡ mapped_below a f + mapped_among f (row a m) + mapped_among f (row (a + m) (n - (a + m)))
split n f a m h =
    let e : (a + m) + (n - (a + m)) ≡ n = omega arith in
    ap (λ k. mapped_below k f) (sym e) ∙ mapped-row f (a + m) (n - (a + m)) ∙ ap (λ k. k + mapped_among f (row (a + m) (n - (a + m)))) (mapped-row f a m)

-- no more blocks of a row are mapped than of the unit
pub among-le : (n : ℕ) (f : ℕ → Held) (a m : ℕ) → a + m ≤ n → mapped_among f (row a m) ≤ mapped_below n f
among-le n f a m h = let parts = split n f a m h in omega arith

-- where the blocks of a row alone change
pub mapped-moved : (n : ℕ) (f g : ℕ → Held) (a m : ℕ) → a + m ≤ n → ((b : ℕ) → (b < a) ⊎ (a + m ≤ b) → g b ≡ f b)
    → mapped_below n g + mapped_among f (row a m) ≡ mapped_below n f + mapped_among g (row a m)
mapped-moved n f g a m h same =
    let was = split n f a m h in
    let now = split n g a m h in
    let below = mapped-same a g f (λ b low. same b (inl low)) in
    let above = among-same f g (a + m) (n - (a + m)) (λ b high. same b (inr high)) in
    omega arith

-- ---- a row that is written

run-alike : (size n i : ℕ) (fill : Fill) → i < n → is_some (held_at (filled size n fill) i) ≡ is_mapped fill
run-alike size n i Hole low = ap is_some (held_at-hole n i)
run-alike size n i (Bytes bytes) low = ap is_some (held_at-cut size n bytes i low)

pub set-counted : (n size : ℕ) (f g : ℕ → Held) (lba m : ℕ) (fill : Fill) → lba + m ≤ n
    → ((b : ℕ) → g b ≡ after (paired (row lba m) (filled size m fill)) b (f b))
    → mapped_below n g + mapped_among f (row lba m) ≡ mapped_below n f + cond (is_mapped fill) m 0
set-counted n size f g lba m fill h put =
    mapped-moved n f g lba m h (λ b out. put b ∙ row-outside lba m (filled size m fill) b (f b) out)
    ∙ ap (λ k. mapped_below n f + k) (among-alike g lba m (is_mapped fill) inside)
  where
    inside : (b : ℕ) → lba ≤ b → b < lba + m → is_some (g b) ≡ is_mapped fill
    inside b low high =
        let e : lba + (b - lba) ≡ b = omega arith in
        let less : b - lba < m = omega arith in
        let P : ℕ → Type 0 = λ k. is_some (g k) ≡ is_mapped fill in
        subst P e (ap is_some (put (lba + (b - lba)) ∙ row-inside lba m (filled size m fill) (b - lba) (f (lba + (b - lba))) (length-filled size m fill) less) ∙ run-alike size m (b - lba) fill less)

pub unmap-counted : (n : ℕ) (f g : ℕ → Held) (lba m : ℕ) → lba + m ≤ n → ((b : ℕ) → g b ≡ after (unmapped (row lba m)) b (f b))
    → mapped_below n g + mapped_among f (row lba m) ≡ mapped_below n f
unmap-counted n f g lba m h put =
    let none : mapped_among g (row lba m) ≡ 0 = among-alike g lba m false inside in
    let moved = mapped-moved n f g lba m h outside in
    omega arith
  where
    outside : (b : ℕ) → (b < lba) ⊎ (lba + m ≤ b) → g b ≡ f b
    outside b (inl low) = let out : (leb lba b && ltb b (lba + m)) ≡ false = grind (arith, nat_tests) in put b ∙ after-unmapped_row lba m b (f b) ∙ ap (λ t. cond t None (f b)) out
    outside b (inr high) = let out : (leb lba b && ltb b (lba + m)) ≡ false = grind (arith, nat_tests) in put b ∙ after-unmapped_row lba m b (f b) ∙ ap (λ t. cond t None (f b)) out

    inside : (b : ℕ) → lba ≤ b → b < lba + m → is_some (g b) ≡ false
    inside b low high = let here : (leb lba b && ltb b (lba + m)) ≡ true = grind (arith, nat_tests) in ap is_some (put b ∙ after-unmapped_row lba m b (f b) ∙ ap (λ t. cond t None (f b)) here)
