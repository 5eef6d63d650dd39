-- The longest run from a place on
use Rattle.std.proofs.Common.{◌≡◌, ℕ, zero, suc, ◌+◌, ◌-◌, ◌<◌, ◌≤◌, List, [], ◌∷◌, ◌++◌, length, take, drop, length-drop, false, refl, ap, sym, ◌∙◌, arith, inl, inr, ◌⊎◌, append-nil}
use Rattle.std.specs.Prelude.{min, slice_range, nat_lt}
use Rattle.std.proofs.lemmas.Bool.{cases_lt}
use Rattle.std.proofs.lemmas.Bool.Decides.{nat_tests}
use Rattle.std.proofs.lemmas.Grind.{common_steps}
use Rattle.std.proofs.lemmas.List.Sums.{sum_by-cons, sum_by-take-le}
use Rattle.lba_ranges.specs.declared.ranges.Range.{Range}
use Rattle.lba_ranges.specs.Denoted.{row, blocks_of, total}
use Rattle.lba_ranges.proofs.PublicLaws.{length-row, blocks_of-append}
use Rattle.copy_plan.specs.Plans.{range_between, ranges_between, extents_between, ranges_limit, IsLongestRun, longest_run}
use Rattle.copy_plan.proofs.Between.{range-some, total-between, between-longer, between-take}

-- more ranges denote no fewer blocks
total-more : (i k : ℕ) (rs : List Range) → i ≤ k → total (take i rs) ≤ total (take k rs)
total-more zero k rs h = omega arith
total-more (suc i) zero rs h = absurd (omega arith)
total-more (suc i) (suc k) [] h = omega arith
total-more (suc i) (suc k) (r ∷ rs) h =
    let rest = total-more i k rs (omega arith) in
    let one = sum_by-cons (λ (x : Range). x.count) r (take i rs) in
    let other = sum_by-cons (λ (x : Range). x.count) r (take k rs) in
    omega arith

length-few : (k : ℕ) (rs : List Range) → length (take k rs) ≤ k
length-few zero rs = omega arith
length-few (suc k) [] = omega arith
length-few (suc k) (r ∷ rs) = let rest = length-few k rs in omega arith

-- its ranges are those up to where it ends
pub run-between : (es : List Range) (place most : ℕ) → longest_run es place most ≡ ranges_between es place (place + total (longest_run es place most))
run-between es place most = sym (between-take ranges_limit es place (place + most))

pub run-few : (es : List Range) (place most : ℕ) → length (longest_run es place most) ≤ ranges_limit
run-few es place most = length-few ranges_limit (ranges_between es place (place + most))

-- it is the longest
pub run-longest : (es : List Range) (place most : ℕ) → place ≤ total es → IsLongestRun es place most (total (longest_run es place most))
run-longest es place most within =
    let all = ranges_between es place (place + most) in
    let whole : total all ≡ min (place + most) (total es) - place = total-between es place (place + most) in
    let front : total (longest_run es place most) ≤ total all = sum_by-take-le (λ (r : Range). r.count) all ranges_limit in
    let few : extents_between es place (place + total (longest_run es place most)) ≤ ranges_limit = rw (← run-between es place most) (run-few es place most) in
    record {
      there = omega arith;
      within = omega arith;
      few = few;
      longest = λ more there bound allowed.
          let count : total (ranges_between es place (place + more)) ≡ min (place + more) (total es) - place = total-between es place (place + more) in
          let longer = between-longer es place (place + more) (place + most) (omega arith) in
          let rest = total-more (extents_between es place (place + more)) ranges_limit all allowed in
          omega arith;
    }

-- ---- range by range

-- the first ranges are the next one and one fewer of the later ones
pub take-next : (k : ℕ) (es : List Range) (place left : ℕ) (r : Range)
    → ranges_between es place (place + left) ≡ r ∷ ranges_between es (place + r.count) (place + left) → r.count ≤ left
    → take (suc k) (ranges_between es place (place + left)) ≡ r ∷ take k (ranges_between es (place + r.count) (place + r.count + (left - r.count)))
take-next k es place left r next within =
    let same : place + r.count + (left - r.count) ≡ place + left = omega arith in
    rw (same, next) refl

pub total-next : (k : ℕ) (es : List Range) (place left : ℕ) (r : Range)
    → ranges_between es place (place + left) ≡ r ∷ ranges_between es (place + r.count) (place + left) → r.count ≤ left
    → total (take (suc k) (ranges_between es place (place + left))) ≡ r.count + total (take k (ranges_between es (place + r.count) (place + r.count + (left - r.count))))
total-next k es place left r next within =
    ap total (take-next k es place left r next within)
    ∙ sum_by-cons (λ (x : Range). x.count) r (take k (ranges_between es (place + r.count) (place + r.count + (left - r.count))))

pub take-none : (k : ℕ) (rs : List Range) → rs ≡ [] → take k rs ≡ []
take-none zero rs e = refl
take-none (suc k) rs e = rw e refl

pub total-none : (k : ℕ) (rs : List Range) → rs ≡ [] → total (take k rs) ≡ 0
total-none zero rs e = refl
total-none (suc k) rs e = rw e refl

-- ---- the blocks of the ranges

take-row : (lba n k : ℕ) → take k (row lba n) ≡ row lba (min k n)
take-row lba n zero = let e : min zero n ≡ 0 = omega arith in rw e refl
take-row lba zero (suc k) = let e : min (suc k) zero ≡ 0 = omega arith in rw e refl
take-row lba (suc n) (suc k) =
    let e : min (suc k) (suc n) ≡ suc (min k n) = omega arith in
    rw e (ap (λ bs. lba ∷ bs) (take-row (suc lba) n k))

drop-row : (lba n k : ℕ) → drop k (row lba n) ≡ row (lba + k) (n - k)
drop-row lba n zero = let e : lba + 0 ≡ lba = omega arith in let f : n - 0 ≡ n = omega arith in rw (e, f) refl
drop-row lba zero (suc k) = let e : 0 - suc k ≡ 0 = omega arith in rw e refl
drop-row lba (suc n) (suc k) =
    let e : suc n - suc k ≡ n - k = omega arith in
    let f : lba + suc k ≡ suc lba + k = omega arith in
    rw (e, f) (drop-row (suc lba) n k)

slice-row : (lba n p q : ℕ) → slice_range (row lba n) p q ≡ row (lba + p) (min n q - p)
slice-row lba n p q =
    let e : min (q - p) (n - p) ≡ min n q - p = omega arith in
    rw (drop-row lba n p, take-row (lba + p) (n - p) (q - p), e) refl

drop-append : (xs ys : List ℕ) (k : ℕ) → drop k (xs ++ ys) ≡ drop k xs ++ drop (k - length xs) ys
drop-append [] ys k = grind (arith, common_steps)
drop-append (x ∷ xs) ys zero = grind (arith, common_steps)
drop-append (x ∷ xs) ys (suc k) = drop-append xs ys k ∙ grind (arith, common_steps)

take-append : (xs ys : List ℕ) (k : ℕ) → take k (xs ++ ys) ≡ take k xs ++ take (k - length xs) ys
take-append [] ys k = grind (arith, common_steps)
take-append (x ∷ xs) ys zero = grind (arith, common_steps)
take-append (x ∷ xs) ys (suc k) = ap (λ l. x ∷ l) (take-append xs ys k) ∙ grind (arith, common_steps)

-- what stands between two places of two lists, one behind the other
slice-append : (xs ys : List ℕ) (n p q : ℕ) → length xs ≡ n → slice_range (xs ++ ys) p q ≡ slice_range xs p q ++ slice_range ys (p - n) (q - n)
slice-append xs ys n p q len =
    let dropped : length (drop p xs) ≡ n - p = omega (arith, length-drop p xs) in
    let left : q - p - (n - p) ≡ q - n - (p - n) = omega arith in
    rw (drop-append xs ys p, take-append (drop p xs) (drop (p - length xs) ys) (q - p), dropped, len, left) refl

-- they are the blocks between these places
pub blocks-between : (es : List Range) (p q : ℕ) → blocks_of (ranges_between es p q) ≡ slice_range (blocks_of es) p q
blocks-between [] p q = grind (arith, common_steps)
blocks-between (e ∷ es) p q =
    rw (slice-append (row e.lba e.count) (blocks_of es) e.count p q (length-row e.lba e.count), slice-row e.lba e.count p q)
    (blocks_of-append (range_between e p q) (ranges_between es (p - e.count) (q - e.count))
    ∙ rw (blocks-between es (p - e.count) (q - e.count)) (ap (λ l. l ++ slice_range (blocks_of es) (p - e.count) (q - e.count)) (one (cases_lt p (min e.count q)))))
  where
    one : ((p < min e.count q) ⊎ (min e.count q ≤ p)) → blocks_of (range_between e p q) ≡ row (e.lba + p) (min e.count q - p)
    one (inl some) = rw (range-some e p q (omega arith) (omega arith)) (append-nil (row (e.lba + p) (min e.count q - p)))
    one (inr none) =
        let t : nat_lt p (min e.count q) ≡ false = grind (arith, nat_tests) in
        let z : min e.count q - p ≡ 0 = omega arith in
        rw (t, z) refl
