-- Blocks by their places in a run
use Rattle.std.proofs.Common.{◌≡◌, ℕ, zero, suc, ◌+◌, ◌-◌, ◌<◌, ◌≤◌, List, [], ◌∷◌, length, take, drop, refl, ap, sym, ◌∙◌, arith, length-drop, length-take-le, zero-add, inl, inr, true, false}
use Rattle.std.specs.Prelude.{None, is_some, slice_range, map, ◌⊎◌}
use Rattle.std.proofs.lemmas.Bool.{cases_lt}
use Rattle.lba_ranges.specs.HeldBlocks.{filled, held_at}
use Rattle.lba_ranges.specs.Denoted.{row}
use Rattle.lba_ranges.specs.Writings.{Held}
use Rattle.lba_ranges.specs.declared.fill.Fill.{Fill}
use Rattle.lba_ranges.specs.declared.fill.Fill.TheVariants.{Hole, Bytes}
use Rattle.lba_ranges.proofs.PublicLaws.{held_at-cut, held_at-hole}

pub held_at-over : (xs : List Held) (i : ℕ) → length xs ≤ i → held_at xs i ≡ None
held_at-over [] i h = refl
held_at-over (x ∷ xs) zero h = absurd (omega arith)
held_at-over (x ∷ xs) (suc i) h = held_at-over xs i (omega arith)

held_at-drop : (xs : List Held) (a i : ℕ) → held_at (drop a xs) i ≡ held_at xs (a + i)
held_at-drop xs zero i = rw zero-add refl
held_at-drop [] (suc a) i = refl
held_at-drop (x ∷ xs) (suc a) i = let e : suc a + i ≡ suc (a + i) = omega arith in rw e (held_at-drop xs a i)

held_at-take : (xs : List Held) (c i : ℕ) → i < c → held_at (take c xs) i ≡ held_at xs i
held_at-take xs zero i h = absurd (omega arith)
held_at-take [] (suc c) i h = refl
held_at-take (x ∷ xs) (suc c) zero h = refl
held_at-take (x ∷ xs) (suc c) (suc i) h = held_at-take xs c i (omega arith)

-- a block of a part is one of the whole
pub held_at-part : (xs : List Held) (a c i : ℕ) → i < c → held_at (slice_range xs a (a + c)) i ≡ held_at xs (a + i)
held_at-part xs a c i h =
    let e : a + c - a ≡ c = omega arith in
    rw e (held_at-take (drop a xs) c i h ∙ held_at-drop xs a i)

-- the same of the last part, past its end too
pub held_at-rest : (xs : List Held) (n a c i : ℕ) → length xs ≡ n → a + c ≡ n → held_at (slice_range xs a (a + c)) i ≡ held_at xs (a + i)
held_at-rest xs n a c i len end = go (cases_lt i c)
  where
    go : (i < c) ⊎ (c ≤ i) → held_at (slice_range xs a (a + c)) i ≡ held_at xs (a + i)
    go (inl low) = held_at-part xs a c i low
    go (inr high) =
        let e : a + c - a ≡ c = omega arith in
        let few : length (take c (drop a xs)) ≤ i = omega (arith, length-take-le c (drop a xs) (omega (arith, length-drop a xs))) in
        rw e (held_at-over (take c (drop a xs)) i few ∙ sym (held_at-over xs (a + i) (omega arith)))

-- items that are known by their places
pub by_places : (f : ℕ → Held) (xs : List Held) (lba n : ℕ) → length xs ≡ n → ((i : ℕ) → i < n → held_at xs i ≡ f (lba + i)) → xs ≡ map f (row lba n)
by_places f [] lba zero len each = refl
by_places f [] lba (suc n) len each = absurd (omega arith)
by_places f (x ∷ xs) lba zero len each = absurd (omega arith)
by_places f (x ∷ xs) lba (suc n) len each =
    let e : lba + 0 ≡ lba = omega arith in
    let head : x ≡ f lba = rw e at (each 0 (omega arith)) in
    let tail = by_places f xs (suc lba) n (omega arith) (λ i h. let s : lba + suc i ≡ suc lba + i = omega arith in rw s at (each (suc i) (omega arith))) in
    rw (head, ← tail) refl

-- the blocks of an extent with bytes are mapped
pub bytes-some : (size n i : ℕ) (fill : Fill) (bytes : List ℕ) → fill ≡ Bytes bytes → i < n → is_some (held_at (filled size n fill) i) ≡ true
bytes-some size n i fill bytes is low = rw is (ap is_some (held_at-cut size n bytes i low))

pub hole-none : (size n i : ℕ) (fill : Fill) → fill ≡ Hole → is_some (held_at (filled size n fill) i) ≡ false
hole-none size n i fill is = rw is (ap is_some (held_at-hole n i))
