-- The runs that a list is put as
use Rattle.std.proofs.Common.{◌≡◌, ℕ, zero, suc, ◌+◌, ◌-◌, ◌<◌, ◌≤◌, List, [], ◌∷◌, ◌++◌, length, take, drop, get_or, refl, ap, sym, ◌∙◌, subst, arith, false, append_assoc, append-nil, length-append, inl, inr}
use Rattle.std.specs.Prelude.{Some, IsSome, slice_get, slice_range, ◌⊎◌, min, max, nat_lt}
use Rattle.std.specs.List.{list_any}
use Rattle.std.proofs.lemmas.Bool.{or_parts, cases_lt}
use Rattle.std.proofs.lemmas.Bool.Decides.{nat_tests}
use Rattle.std.proofs.Math.Seq.{take-add}
use Rattle.std.proofs.lemmas.List.{drop-drop}
use Rattle.lba_ranges.specs.HeldBlocks.{filled, IsFull}
use Rattle.lba_ranges.specs.Denoted.{row, blocks_of, is_overlapping}
use Rattle.lba_ranges.specs.inner.Denoted.{meets}
use Rattle.lba_ranges.specs.Writings.{Held, paired, after}
use Rattle.lba_ranges.specs.declared.fill.Piece.{Piece}
use Rattle.lba_ranges.specs.declared.ranges.Range.{Range}
use Rattle.lba_ranges.proofs.PublicLaws.{blocks_of-push, take-get, length-row, overlapping-cons, length-filled, after-append}
use Rattle.lun_extents.specs.declared.runs.Filling.{Filling}
use Rattle.lun_extents.specs.Extents.{stored}
use Rattle.lun_extents.specs.inner.Runs.{ranges_of, items_of_runs, AreRuns, IsSplitAt}

ranges-push : (rs : List Filling) (r : Filling) → ranges_of (rs ++ r ∷ []) ≡ ranges_of rs ++ r.range ∷ []
ranges-push [] r = refl
ranges-push (q ∷ rs) r = ap (λ l. q.range ∷ l) (ranges-push rs r)

-- one more run
pub blocks-push : (rs : List Filling) (r : Filling) → blocks_of (ranges_of (rs ++ r ∷ [])) ≡ blocks_of (ranges_of rs) ++ row r.range.lba r.range.count
blocks-push rs r = ap blocks_of (ranges-push rs r) ∙ blocks_of-push (ranges_of rs) r.range

pub items-push : (size : ℕ) (rs : List Filling) (r : Filling) → items_of_runs size (rs ++ r ∷ []) ≡ items_of_runs size rs ++ filled size r.range.count r.fill
items-push size [] r = append-nil (filled size r.range.count r.fill)
items-push size (q ∷ rs) r = rw (items-push size rs r) (sym (append_assoc (filled size q.range.count q.fill) (items_of_runs size rs) (filled size r.range.count r.fill)))

pub runs-push : (blocks size : ℕ) (rs : List Filling) (r : Filling) → AreRuns blocks size rs → 1 ≤ r.range.count → r.range.lba + r.range.count ≤ blocks → IsFull size r.range.count r.fill → AreRuns blocks size (rs ++ r ∷ [])
runs-push blocks size [] r all some within full = (some, within, full, tt)
runs-push blocks size (q ∷ rs) r all some within full = (all.0, all.1, all.2, runs-push blocks size rs r all.3 some within full)

-- a part of a list, and the part after it
pub slice-more : (xs : List Held) (from n m : ℕ) → slice_range xs from (from + (n + m)) ≡ slice_range xs from (from + n) ++ slice_range xs (from + n) (from + n + m)
slice-more xs from n m =
    let a : from + (n + m) - from ≡ n + m = omega arith in
    let b : from + n - from ≡ n = omega arith in
    let d : from + n + m - (from + n) ≡ m = omega arith in
    rw (a, b, d) (take-add n m (drop from xs) ∙ ap (λ l. take n (drop from xs) ++ take m l) (drop-drop n from xs))

pub front-more : (xs : List Held) (n m : ℕ) → take (n + m) xs ≡ take n xs ++ slice_range xs n (n + m)
front-more xs n m = let a : n + m - n ≡ m = omega arith in rw a (take-add n m xs)

-- a run that was planned, by its place
pub runs-at : (blocks size : ℕ) (rs : List Filling) (k : ℕ) (r : Filling) → AreRuns blocks size rs → k < length rs → r ≡ get_or rs k r
    → (1 ≤ r.range.count) × (r.range.lba + r.range.count ≤ blocks)
runs-at blocks size [] k r all low is = absurd (omega arith)
runs-at blocks size (q ∷ rs) zero r all low is = subst (λ (x : Filling). (1 ≤ x.range.count) × (x.range.lba + x.range.count ≤ blocks)) (sym is) (all.0, all.1)
runs-at blocks size (q ∷ rs) (suc k) r all low is = runs-at blocks size rs k r all.3 (omega arith) is

pub ranges-at : (rs : List Filling) (k : ℕ) (r : Filling) → k < length rs → r ≡ get_or rs k r → slice_get (ranges_of rs) k ≡ Some r.range
ranges-at [] k r low is = absurd (omega arith)
ranges-at (q ∷ rs) zero r low is = ap (λ (x : Filling). Some x.range) (sym is)
ranges-at (q ∷ rs) (suc k) r low is = ranges-at rs k r (omega arith) is

pub length-ranges : (rs : List Filling) → length (ranges_of rs) ≡ length rs
length-ranges [] = refl
length-ranges (r ∷ rs) = ap suc (length-ranges rs)

-- a list of one range
pub single : (rs : List Range) (r : Range) → length rs ≡ 1 → slice_get rs 0 ≡ Some r → rs ≡ r ∷ []
single [] r one is = absurd (omega arith)
single (x ∷ []) r one is = let same : x ≡ r = cc in ap (λ (y : Range). y ∷ []) same
single (x ∷ y ∷ rs) r one is = absurd (omega arith)

-- ---- where extents begin

get-push : (rs : List Range) (r q : Range) (j : ℕ) → slice_get (rs ++ r ∷ []) j ≡ Some q → (slice_get rs j ≡ Some q) ⊎ (r ≡ q)
get-push [] r q zero is = inr cc
get-push [] r q (suc j) is = cc
get-push (x ∷ rs) r q zero is = inl is
get-push (x ∷ rs) r q (suc j) is = get-push rs r q j is

-- an extent begins at both ends of one range more
pub splits-more : (was now : List (ℕ × Piece)) (rs : List Range) (k : ℕ) (r : Range) → IsSplitAt was (take k rs) → slice_get rs k ≡ Some r
    → ((b : ℕ) → IsSome (stored was b) → IsSome (stored now b)) → IsSome (stored now r.lba) → IsSome (stored now (r.lba + r.count)) → IsSplitAt now (take (k + 1) rs)
splits-more was now rs k r has is kept start end = record {
  start = λ j q found. first q j (get-push (take k rs) r q j (subst (λ l. slice_get l j ≡ Some q) (take-get rs k r is) found));
  end = λ j q found. last q j (get-push (take k rs) r q j (subst (λ l. slice_get l j ≡ Some q) (take-get rs k r is) found));
}
  where
    first : (q : Range) (j : ℕ) → (slice_get (take k rs) j ≡ Some q) ⊎ (r ≡ q) → IsSome (stored now q.lba)
    first q j (inl before) = kept q.lba (has.start j q before)
    first q j (inr same) = subst (λ (x : Range). IsSome (stored now x.lba)) same start

    last : (q : Range) (j : ℕ) → (slice_get (take k rs) j ≡ Some q) ⊎ (r ≡ q) → IsSome (stored now (q.lba + q.count))
    last q j (inl before) = kept (q.lba + q.count) (has.end j q before)
    last q j (inr same) = subst (λ (x : Range). IsSome (stored now (x.lba + x.count))) same end

pub splits-none : (now : List (ℕ × Piece)) → IsSplitAt now []
splits-none now = record { start = λ j q found. cc; end = λ j q found. cc }

pub splits-kept : (was now : List (ℕ × Piece)) (rs : List Range) → IsSplitAt was rs → ((b : ℕ) → IsSome (stored was b) → IsSome (stored now b)) → IsSplitAt now rs
splits-kept was now rs has kept = record {
  start = λ k r found. kept r.lba (has.start k r found);
  end = λ k r found. kept (r.lba + r.count) (has.end k r found);
}

-- ---- one run after the other

-- a range that overlaps no later one
apart : (r : Range) (rs : List Range) (k : ℕ) (q : Range) → list_any (meets r) rs ≡ false → slice_get rs k ≡ Some q → meets r q ≡ false
apart r [] k q none found = cc
apart r (x ∷ rs) zero q none found =
    let same : x ≡ q = cc in
    subst (λ (y : Range). meets r y ≡ false) same (or_parts (meets r x) (list_any (meets r) rs) none).0
apart r (x ∷ rs) (suc k) q none found = apart r rs k q (or_parts (meets r x) (list_any (meets r) rs) none).1 found

-- and does not reach into it
outside : (a n b m : ℕ) → 1 ≤ n → 1 ≤ m → nat_lt (max a b) (min (a + n) (b + m)) ≡ false → ((b + m ≤ a) ⊎ (a + n ≤ b))
outside a n b m some more none = go (cases_lt b (a + n)) (cases_lt a (b + m))
  where
    go : (b < a + n) ⊎ (a + n ≤ b) → (a < b + m) ⊎ (b + m ≤ a) → (b + m ≤ a) ⊎ (a + n ≤ b)
    go (inr high) _ = inr high
    go _ (inr low) = inl low
    go (inl x) (inl y) = absurd (grind (arith, nat_tests))

some-at : (blocks size : ℕ) (rs : List Filling) (k : ℕ) (q : Range) → AreRuns blocks size rs → slice_get (ranges_of rs) k ≡ Some q → 1 ≤ q.count
some-at blocks size [] k q all found = cc
some-at blocks size (r ∷ rs) zero q all found =
    let same : r.range ≡ q = cc in
    subst (λ (y : Range). 1 ≤ y.count) same all.0
some-at blocks size (r ∷ rs) (suc k) q all found = some-at blocks size rs k q all.3 found

-- a run that is set leaves the extents split at the later ones
pub splits-later : (blocks size : ℕ) (was now : List (ℕ × Piece)) (r : Filling) (rs : List Filling) → IsSplitAt was (ranges_of (r ∷ rs)) → AreRuns blocks size (r ∷ rs)
    → is_overlapping (ranges_of (r ∷ rs)) ≡ false
    → ((b : ℕ) → b ≤ r.range.lba → IsSome (stored was b) → IsSome (stored now b)) → ((b : ℕ) → r.range.lba + r.range.count ≤ b → IsSome (stored was b) → IsSome (stored now b))
    → IsSplitAt now (ranges_of rs)
splits-later blocks size was now r rs has all none below above = record {
  start = λ k q found. go q q.lba (side k q found) (λ low. omega arith) (λ high. high) (has.start (suc k) q found);
  end = λ k q found. go q (q.lba + q.count) (side k q found) (λ low. low) (λ high. omega arith) (has.end (suc k) q found);
}
  where
    none-met : list_any (meets r.range) (ranges_of rs) ≡ false
    none-met = (or_parts (list_any (meets r.range) (ranges_of rs)) (is_overlapping (ranges_of rs)) (sym (overlapping-cons r.range (ranges_of rs)) ∙ none)).0

    side : (k : ℕ) (q : Range) → slice_get (ranges_of rs) k ≡ Some q → (q.lba + q.count ≤ r.range.lba) ⊎ (r.range.lba + r.range.count ≤ q.lba)
    side k q found = outside r.range.lba r.range.count q.lba q.count all.0 (some-at blocks size rs k q all.3 found) (apart r.range (ranges_of rs) k q none-met found)

    go : (q : Range) (b : ℕ) → (q.lba + q.count ≤ r.range.lba) ⊎ (r.range.lba + r.range.count ≤ q.lba) → (q.lba + q.count ≤ r.range.lba → b ≤ r.range.lba)
        → (r.range.lba + r.range.count ≤ q.lba → r.range.lba + r.range.count ≤ b) → IsSome (stored was b) → IsSome (stored now b)
    go q b (inl low) first last some = below b (first low) some
    go q b (inr high) first last some = above b (last high) some

pub apart-later : (r : Filling) (rs : List Filling) → is_overlapping (ranges_of (r ∷ rs)) ≡ false → is_overlapping (ranges_of rs) ≡ false
apart-later r rs none = (or_parts (list_any (meets r.range) (ranges_of rs)) (is_overlapping (ranges_of rs)) (sym (overlapping-cons r.range (ranges_of rs)) ∙ none)).1

length-planned : (size : ℕ) (rs : List Filling) → length (blocks_of (ranges_of rs)) ≡ length (items_of_runs size rs)
length-planned size [] = refl
length-planned size (r ∷ rs) =
    let a = length-append (row r.range.lba r.range.count) (blocks_of (ranges_of rs)) in
    let b = length-append (filled size r.range.count r.fill) (items_of_runs size rs) in
    let m = length-row r.range.lba r.range.count in
    let n = length-filled size r.range.count r.fill in
    let rest = length-planned size rs in
    omega arith

paired-append : (bs cs : List ℕ) (xs ys : List Held) → length bs ≡ length xs → paired (bs ++ cs) (xs ++ ys) ≡ paired bs xs ++ paired cs ys
paired-append [] cs [] ys len = refl
paired-append [] cs (x ∷ xs) ys len = absurd (omega arith)
paired-append (b ∷ bs) cs [] ys len = absurd (omega arith)
paired-append (b ∷ bs) cs (x ∷ xs) ys len = ap (λ l. record { block = b; held = x } ∷ l) (paired-append bs cs xs ys (omega arith))

-- one more run is written
pub after-run : (size : ℕ) (rs : List Filling) (r : Filling) (b : ℕ) (was : Held)
    → after (paired (row r.range.lba r.range.count) (filled size r.range.count r.fill)) b (after (paired (blocks_of (ranges_of rs)) (items_of_runs size rs)) b was)
    ≡ after (paired (blocks_of (ranges_of (rs ++ r ∷ []))) (items_of_runs size (rs ++ r ∷ []))) b was
after-run size rs r b was =
    let bs = blocks_of (ranges_of rs) in
    let xs = items_of_runs size rs in
    let cs = row r.range.lba r.range.count in
    let ys = filled size r.range.count r.fill in
    sym (after-append (paired bs xs) (paired cs ys) b was)
    ∙ ap (λ ws. after ws b was) (sym (paired-append bs cs xs ys (length-planned size rs)))
    ∙ ap (λ l. after (paired l (xs ++ ys)) b was) (sym (blocks-push rs r))
    ∙ ap (λ l. after (paired (blocks_of (ranges_of (rs ++ r ∷ []))) l) b was) (sym (items-push size rs r))
