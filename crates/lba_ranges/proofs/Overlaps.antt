-- Where two places of some ranges denote one block
use Rattle.std.proofs.Common.{◌≡◌, ℕ, zero, suc, ◌+◌, ◌<◌, List, [], ◌∷◌, ◌++◌, ◌-◌, length, take, drop, refl, ◌∙◌, arith, true, false, Bool, Some, sym, get_or, slice_get, add-one, drop-cons}
use Rattle.std.specs.Prelude.{◌==◌, ◌||◌, ◌&&◌, nat_lt, nat_le}
use Rattle.std.specs.List.{list_any}
use Rattle.std.proofs.lemmas.Bool.Decides.{nat_tests}
use Rattle.std.proofs.lemmas.List.Folds.{list_any-append}
use Rattle.std.proofs.lemmas.List.{take_rest}
use Rattle.std.proofs.lemmas.Option.{slice_get_within, get_or_from_slice_get}
use Rattle.lba_ranges.specs.declared.ranges.Range.{Range}
use Rattle.lba_ranges.specs.Denoted.{row, blocks_of, has_repeat, is_overlapping}
use Rattle.lba_ranges.specs.inner.Denoted.{meets}

-- some number is in both lists
abbrev shares : List ℕ → List ℕ → Bool
shares xs ys = list_any (λ x. list_any (λ y. y == x) ys) xs

or_shuffle : (a b c d e : Bool) → ((a || b) || ((c || d) || e)) ≡ (((a || c) || (b || d)) || e)
or_shuffle true b c d e = refl
or_shuffle false true true d e = refl
or_shuffle false true false d e = refl
or_shuffle false false c d e = refl

repeat-append : (xs ys : List ℕ) → has_repeat (xs ++ ys) ≡ ((has_repeat xs || shares xs ys) || has_repeat ys)
repeat-append [] ys = refl
repeat-append (x ∷ xs) ys =
    rw (list_any-append (λ a. a == x) xs ys, repeat-append xs ys)
    (or_shuffle (list_any (λ a. a == x) xs) (list_any (λ a. a == x) ys) (has_repeat xs) (shares xs ys) (has_repeat ys))

any_row : (b lba count : ℕ) → list_any (λ a. a == b) (row lba count) ≡ (nat_le lba b && nat_lt b (lba + count))
any_row b lba zero = grind (arith, nat_tests)
any_row b lba (suc count) = let rest = any_row b (suc lba) count in rw rest (grind (arith, nat_tests))

row_apart : (lba count : ℕ) → has_repeat (row lba count) ≡ false
row_apart lba zero = refl
row_apart lba (suc count) =
    let first : list_any (λ a. a == lba) (row (suc lba) count) ≡ false = any_row lba (suc lba) count ∙ grind (arith, nat_tests) in
    rw (first, row_apart (suc lba) count) refl

abbrev range : ℕ → ℕ → Range
range lba count = record { lba = lba; count = count }

rows_share : (a n b m : ℕ) → shares (row a n) (row b m) ≡ meets (range a n) (range b m)
rows_share a zero b m = grind (arith, nat_tests)
rows_share a (suc n) b m = rw (any_row a b m, rows_share (suc a) n b m) (grind (arith, nat_tests))

or_swap : (a b c d : Bool) → ((a || b) || (c || d)) ≡ ((a || c) || (b || d))
or_swap true b c d = refl
or_swap false true true d = refl
or_swap false true false d = refl
or_swap false false c d = refl

shares-append : (xs ys zs : List ℕ) → shares xs (ys ++ zs) ≡ (shares xs ys || shares xs zs)
shares-append [] ys zs = refl
shares-append (x ∷ xs) ys zs =
    rw (list_any-append (λ y. y == x) ys zs, shares-append xs ys zs)
    (or_swap (list_any (λ y. y == x) ys) (list_any (λ y. y == x) zs) (shares xs ys) (shares xs zs))

shares-none : (xs : List ℕ) → shares xs [] ≡ false
shares-none [] = refl
shares-none (x ∷ xs) = shares-none xs

shares-ranges : (r : Range) (rs : List Range) → shares (row r.lba r.count) (blocks_of rs) ≡ list_any (meets r) rs
shares-ranges r [] = shares-none (row r.lba r.count)
shares-ranges r (q ∷ rs) =
    rw (shares-append (row r.lba r.count) (row q.lba q.count) (blocks_of rs), rows_share r.lba r.count q.lba q.count, shares-ranges r rs) refl

-- a range overlaps a later one, or later ones overlap
pub overlapping-cons : (r : Range) (rs : List Range) → is_overlapping (r ∷ rs) ≡ (list_any (meets r) rs || is_overlapping rs)
overlapping-cons r rs =
    rw (repeat-append (row r.lba r.count) (blocks_of rs), row_apart r.lba r.count, shares-ranges r rs) refl

-- the ranges from the i-th on overlap where that one meets a later one, or the later ones overlap
pub overlapping-drop : (rs : List Range) (i : ℕ) (r : Range) (met : Bool) → slice_get rs i ≡ Some r
    → met ≡ list_any (meets r) (take (length rs - (i + 1)) (drop (i + 1) rs))
    → is_overlapping (drop i rs) ≡ (met || is_overlapping (drop (i + 1) rs))
overlapping-drop rs i r met there tested =
    let h : i < length rs = slice_get_within rs i r there in
    let is : r ≡ get_or rs i r = sym (get_or_from_slice_get rs i r r there) in
    let split : is_overlapping (drop i rs) ≡ (list_any (meets r) (drop (i + 1) rs) || is_overlapping (drop (i + 1) rs)) =
    rw (add-one, drop-cons rs i r h, ← is) (overlapping-cons r (drop (suc i) rs)) in
    let rest : met ≡ list_any (meets r) (drop (i + 1) rs) = tested ∙ rw (take_rest rs (i + 1)) refl in
    rw rest split
