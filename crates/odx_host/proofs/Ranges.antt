-- Some of the blocks of extents, in which no block stands twice
use Rattle.std.proofs.Common.{◌≡◌, ◌∙◌, ℕ, zero, suc, ◌≤◌, List, [], ◌∷◌, take, drop, refl, ap, arith, true, false, Bool}
use Rattle.std.specs.Prelude.{◌==◌, ◌||◌, nat_lt, slice_range, None}
use Rattle.std.specs.List.{list_any}
use Rattle.std.proofs.lemmas.Bool.Decides.{nat_tests}
use Rattle.lba_ranges.specs.declared.ranges.Range.{Range}
use Rattle.lba_ranges.specs.Denoted.{blocks_of, total, has_repeat, is_overlapping}
use Rattle.block_params.specs.RangesRead.{range_fault}

or_first : (a b : Bool) → (a || b) ≡ false → a ≡ false
or_first true b e = e
or_first false b e = refl

or_second : (a b : Bool) → (a || b) ≡ false → b ≡ false
or_second true b e = cc
or_second false b e = e

any-take : (n : ℕ) (p : ℕ → Bool) (xs : List ℕ) → list_any p xs ≡ false → list_any p (take n xs) ≡ false
any-take zero p xs e = refl
any-take (suc n) p [] e = refl
any-take (suc n) p (x ∷ xs) e = rw (or_first (p x) (list_any p xs) e) (any-take n p xs (or_second (p x) (list_any p xs) e))

repeat-take : (n : ℕ) (xs : List ℕ) → has_repeat xs ≡ false → has_repeat (take n xs) ≡ false
repeat-take zero xs e = refl
repeat-take (suc n) [] e = refl
repeat-take (suc n) (x ∷ xs) e =
    let here = list_any (λ a. a == x) xs in
    rw (any-take n (λ a. a == x) xs (or_first here (has_repeat xs) e)) (repeat-take n xs (or_second here (has_repeat xs) e))

repeat-drop : (n : ℕ) (xs : List ℕ) → has_repeat xs ≡ false → has_repeat (drop n xs) ≡ false
repeat-drop zero xs e = e
repeat-drop (suc n) [] e = refl
repeat-drop (suc n) (x ∷ xs) e = repeat-drop n xs (or_second (list_any (λ a. a == x) xs) (has_repeat xs) e)

pub slice-apart : (es rs : List Range) (p q : ℕ) → is_overlapping es ≡ false → blocks_of rs ≡ slice_range (blocks_of es) p q → is_overlapping rs ≡ false
slice-apart es rs p q apart is = ap has_repeat is ∙ repeat-take _ (drop p (blocks_of es)) (repeat-drop p (blocks_of es) apart)

not-above : (a b : ℕ) → a ≤ b → nat_lt b a ≡ false
not-above a b h = grind (arith, nat_tests)

pub legal-ranges : (rs : List Range) → is_overlapping rs ≡ false → total rs ≤ 1_048_576 → range_fault rs ≡ None
legal-ranges rs apart few = rw (apart, not-above (total rs) 1_048_576 few) refl
