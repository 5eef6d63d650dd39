-- The ranges of the parts and of the writes may be named
use Rattle.std.proofs.Common.{◌≡◌, ℕ, ◌+◌, ◌-◌, ◌<◌, ◌≤◌, ◌^◌, List, [], ◌∷◌, take, drop, ap, sym, ◌∙◌, subst, arith, true, false, inl, inr, ◌⊎◌, min}
use Rattle.std.specs.Prelude.{nat_lt, All}
use Rattle.std.proofs.lemmas.Bool.{cases_lt}
use Rattle.std.proofs.lemmas.Bool.Decides.{nat_tests}
use Rattle.std.proofs.lemmas.List.Elements.{All-head, All-tail}
use Rattle.std.proofs.lemmas.List.Sums.{sum_by-cons}
use Rattle.lba_ranges.specs.declared.ranges.Range.{Range}
use Rattle.lba_ranges.specs.Denoted.{blocks_of, total}
use Rattle.cm_history.proofs.PublicLaws.{Each, Each-all, Each-append}
use Rattle.copy_plan.specs.Jobs.{IsExtent, AreExtents}
use Rattle.copy_plan.specs.Plans.{range_between, ranges_between, longest_run}
use Rattle.copy_plan.proofs.PublicLaws.{run-between, run-few, run-longest, blocks-between}
use Rattle.odx_host.proofs.Ranges.{slice-apart, legal-ranges}
use Rattle.odx_host.proofs.Programs.{MayName}

not-below : (a b : ℕ) → b ≤ a → nat_lt a b ≡ false
not-below a b h = grind (arith, nat_tests)

is-below : (a b : ℕ) → a < b → nat_lt a b ≡ true
is-below a b h = grind (arith, nat_tests)

-- a range whose numbers fit their fields
abbrev IsRange : Range → Type 0
IsRange r = (r.lba < 2 ^ 64) × (r.count < 2 ^ 32)

-- each range begins at a number of 64 bits
abbrev Begins : List Range → Type 0
Begins rs = Each (λ (r : Range). r.lba < 2 ^ 64) rs

begins-one : (e : Range) (first last : ℕ) → IsExtent e → Begins (range_between e first last)
begins-one e first last is = go (cases_lt first (min e.count last))
  where
    go : (first < min e.count last) ⊎ (min e.count last ≤ first) → Begins (range_between e first last)
    go (inl some) = let end = is.numbers in rw (is-below first (min e.count last) some) (omega arith, tt)
    go (inr none) = rw (not-below first (min e.count last) none) tt

begins-between : (es : List Range) (first last : ℕ) → All IsExtent es → Begins (ranges_between es first last)
begins-between [] first last all = tt
begins-between (e ∷ es) first last all =
    Each-append (λ (r : Range). r.lba < 2 ^ 64) (range_between e first last) (ranges_between es (first - e.count) (last - e.count)) (begins-one e first last (All-head IsExtent e es all))
    (begins-between es (first - e.count) (last - e.count) (All-tail IsExtent e es all))

fit-few : (rs : List Range) (n : ℕ) → Begins rs → total rs ≤ n → n < 2 ^ 32 → Each IsRange rs
fit-few [] n begins few low = tt
fit-few (r ∷ rs) n begins few low =
    let sum = sum_by-cons (λ (x : Range). x.count) r rs in
    ((begins.0, omega (arith, sum, few, low)), fit-few rs n begins.1 (omega (arith, sum, few)) low)

-- the blocks of a run
pub run-blocks : (es : List Range) (place most : ℕ) → blocks_of (longest_run es place most) ≡ take (total (longest_run es place most)) (drop place (blocks_of es))
run-blocks es place most =
    let n = total (longest_run es place most) in
    let size : place + n - place ≡ n = omega arith in
    ap blocks_of (run-between es place most) ∙ blocks-between es place (place + n) ∙ ap (λ k. take k (drop place (blocks_of es))) size

pub may-name : (es : List Range) (place most : ℕ) → AreExtents es → place ≤ total es → most ≤ 1_048_576 → MayName (longest_run es place most)
may-name es place most are there few =
    let n = total (longest_run es place most) in
    let longest = run-longest es place most there in
    let within = longest.within in
    let blocks = ap blocks_of (run-between es place most) ∙ blocks-between es place (place + n) in
    record {
      few = run-few es place most;
      legal = legal-ranges (longest_run es place most) (slice-apart es (longest_run es place most) place (place + n) are.apart blocks) (omega arith);
      fit = Each-all IsRange (longest_run es place most)
          (fit-few (longest_run es place most) 1_048_576 (subst Begins (sym (run-between es place most)) (begins-between es place (place + n) are.each)) (omega arith) (omega arith));
    }
