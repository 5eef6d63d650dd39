-- The parts and the writes that are still to come
use Rattle.std.proofs.Common.{◌≡◌, ◌∙◌, ℕ, zero, suc, ◌+◌, ◌-◌, ◌<◌, ◌≤◌, List, [], ◌∷◌, ◌++◌, take, refl, ap, arith, true, false, inl, inr, min}
use Rattle.std.specs.Prelude.{◌⊎◌, nat_lt, cond}
use Rattle.std.proofs.lemmas.Bool.{cases_lt}
use Rattle.std.proofs.lemmas.Bool.Decides.{nat_tests}
use Rattle.std.proofs.lemmas.List.Sums.{sum_by-cons}
use Rattle.lba_ranges.specs.declared.ranges.Range.{Range}
use Rattle.lba_ranges.specs.Denoted.{total}
use Rattle.copy_plan.specs.Jobs.{CopyJob}
use Rattle.copy_plan.specs.Plans.{range_between, ranges_between, longest_run, ranges_limit, part_limit}
use Rattle.odx_host.specs.Parts.{part_at, parts_from, place_behind, ranges_at, writes_from}
use Rattle.odx_host.specs.inner.Steps.{writes_to_come, parts_to_come}

-- ---- tests

is-below : (a b : ℕ) → a < b → nat_lt a b ≡ true
is-below a b h = grind (arith, nat_tests)

not-below : (a b : ℕ) → b ≤ a → nat_lt a b ≡ false
not-below a b h = grind (arith, nat_tests)

-- ---- a run of blocks is not empty

total-cons : (r : Range) (rs : List Range) → total (r ∷ rs) ≡ r.count + total rs
total-cons r rs = sum_by-cons (λ (x : Range). x.count) r rs

-- the first of some ranges has a block
abbrev Begins : List Range → Type 0
Begins [] = ⊥
Begins (r ∷ rs) = 0 < r.count

begins-append : (xs ys : List Range) → Begins xs → Begins (xs ++ ys)
begins-append [] ys h = absurd h
begins-append (x ∷ xs) ys h = h

some-of : (xs : List Range) → Begins xs → 0 < total (take ranges_limit xs)
some-of [] h = absurd h
some-of (x ∷ xs) h = omega (arith, h, total-cons x (take 63 xs))

begins-between : (es : List Range) (place last : ℕ) → place < total es → place < last → Begins (ranges_between es place last)
begins-between [] place last low high = absurd (omega arith)
begins-between (e ∷ es) place last low high = go (cases_lt place (min e.count last)) (λ a b. begins-between es (place - e.count) (last - e.count) a b)
  where
    go : (place < min e.count last) ⊎ (min e.count last ≤ place)
        → (place - e.count < total es → place - e.count < last - e.count → Begins (ranges_between es (place - e.count) (last - e.count)))
        → Begins (range_between e place last ++ ranges_between es (place - e.count) (last - e.count))
    go (inl here) later = rw (is-below place (min e.count last) here) (omega arith)
    go (inr past) later =
        let behind : e.count ≤ place = omega (arith, past, high) in
        rw (not-below place (min e.count last) past) (later (omega (arith, total-cons e es)) (omega arith))

pub run-some : (es : List Range) (place most : ℕ) → place < total es → 0 < most → 0 < total (longest_run es place most)
run-some es place most low some = some-of (ranges_between es place (place + most)) (begins-between es place (place + most) low (omega arith))

-- ---- writes

writes-enough : (left more : ℕ) (to : List Range) (place last : ℕ) → last ≤ total to → last - place ≤ left → last - place ≤ more
    → writes_from left to place last ≡ writes_from more to place last
writes-enough zero zero to place last within l m = refl
writes-enough zero (suc more) to place last within l m = rw (not-below place last (omega arith)) refl
writes-enough (suc left) zero to place last within l m = rw (not-below place last (omega arith)) refl
writes-enough (suc left) (suc more) to place last within l m = go (cases_lt place last)
    (λ a b. writes-enough left more to (place + total (longest_run to place (last - place))) last within a b)
  where
    go : (place < last) ⊎ (last ≤ place) → (last - (place + total (longest_run to place (last - place))) ≤ left → last - (place + total (longest_run to place (last - place))) ≤ more → writes_from left to (place + total (longest_run to place (last - place))) last ≡ writes_from more to (place + total (longest_run to place (last - place))) last)
        → writes_from (suc left) to place last ≡ writes_from (suc more) to place last
    go (inl low) later =
        let some : 0 < total (longest_run to place (last - place)) = run-some to place (last - place) (omega arith) (omega arith) in
        rw (is-below place last low) (ap (λ ws. longest_run to place (last - place) ∷ ws) (later (omega arith) (omega arith)))
    go (inr high) later = rw (not-below place last high) refl

pub writes-next : (to : List Range) (place last : ℕ) → last ≤ total to → place < last
    → writes_to_come to place last ≡ longest_run to place (last - place) ∷ writes_to_come to (place + total (longest_run to place (last - place))) last
writes-next to place last within low =
    let n : ℕ = total (longest_run to place (last - place)) in
    let some : 0 < total (longest_run to place (last - place)) = run-some to place (last - place) (omega arith) (omega arith) in
    let left : last - place ≡ suc (last - suc place) = omega arith in
    ap (λ k. writes_from k to place last) left
    ∙ ap (λ b. cond b (longest_run to place (last - place) ∷ writes_from (last - suc place) to (place + total (longest_run to place (last - place))) last) []) (is-below place last low)
    ∙ ap (λ ws. longest_run to place (last - place) ∷ ws)
    (writes-enough (last - suc place) (last - (place + total (longest_run to place (last - place)))) to (place + total (longest_run to place (last - place))) last within (omega arith) (omega arith))

pub writes-end : (to : List Range) (place last : ℕ) → last ≤ place → writes_to_come to place last ≡ []
writes-end to place last high = let none : last - place ≡ 0 = omega arith in ap (λ k. writes_from k to place last) none

-- ---- parts

parts-enough : (left more : ℕ) (job : CopyJob) (place : ℕ) → total job.from - place ≤ left → total job.from - place ≤ more
    → parts_from left job place ≡ parts_from more job place
parts-enough zero zero job place l m = refl
parts-enough zero (suc more) job place l m = rw (not-below place (total job.from) (omega arith)) refl
parts-enough (suc left) zero job place l m = rw (not-below place (total job.from) (omega arith)) refl
parts-enough (suc left) (suc more) job place l m = go (cases_lt place (total job.from)) (λ a b. parts-enough left more job (place_behind job place) a b)
  where
    go : (place < total job.from) ⊎ (total job.from ≤ place)
        → (total job.from - place_behind job place ≤ left → total job.from - place_behind job place ≤ more → parts_from left job (place_behind job place) ≡ parts_from more job (place_behind job place))
        → parts_from (suc left) job place ≡ parts_from (suc more) job place
    go (inl low) later =
        let some : 0 < total (ranges_at job place) = run-some job.from place part_limit low (omega arith) in
        rw (is-below place (total job.from) low) (ap (λ ps. part_at job place ∷ ps) (later (omega arith) (omega arith)))
    go (inr high) later = rw (not-below place (total job.from) high) refl

pub parts-next : (job : CopyJob) (place : ℕ) → place < total job.from → parts_to_come job place ≡ part_at job place ∷ parts_to_come job (place_behind job place)
parts-next job place low =
    let some : 0 < total (ranges_at job place) = run-some job.from place part_limit low (omega arith) in
    let left : total job.from - place ≡ suc (total job.from - suc place) = omega arith in
    ap (λ k. parts_from k job place) left
    ∙ ap (λ b. cond b (part_at job place ∷ parts_from (total job.from - suc place) job (place_behind job place)) []) (is-below place (total job.from) low)
    ∙ ap (λ ps. part_at job place ∷ ps) (parts-enough (total job.from - suc place) (total job.from - place_behind job place) job (place_behind job place) (omega arith) (omega arith))

pub parts-end : (job : CopyJob) (place : ℕ) → total job.from ≤ place → parts_to_come job place ≡ []
parts-end job place high = let none : total job.from - place ≡ 0 = omega arith in ap (λ k. parts_from k job place) none

-- the writes of a part
pub writes-of : (job : CopyJob) (place : ℕ) → (part_at job place).writes ≡ writes_to_come job.to place (place_behind job place)
writes-of job place = let n : total (ranges_at job place) ≡ place_behind job place - place = omega arith in ap (λ k. writes_from k job.to place (place_behind job place)) n
