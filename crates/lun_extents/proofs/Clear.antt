-- Runs that are set one after the other where nothing stood
use Rattle.std.proofs.Common.{◌≡◌, ℕ, zero, suc, ◌+◌, ◌-◌, ◌<◌, ◌≤◌, List, [], ◌∷◌, ◌++◌, ap, sym, ◌∙◌, subst, arith, inl, inr, false}
use Rattle.std.specs.Prelude.{Some, None, is_some, ◌⊎◌}
use Rattle.std.proofs.lemmas.Bool.{cases_lt}
use Rattle.lba_ranges.specs.HeldBlocks.{filled}
use Rattle.lba_ranges.specs.Denoted.{row, blocks_of}
use Rattle.lba_ranges.specs.Writings.{Held, paired, after, mapped_among}
use Rattle.lba_ranges.specs.declared.fill.Piece.{Piece}
use Rattle.lba_ranges.specs.declared.ranges.Range.{Range}
use Rattle.lba_ranges.proofs.PublicLaws.{length-filled}
use Rattle.lun_extents.specs.declared.runs.Filling.{Filling}
use Rattle.lun_extents.specs.Extents.{stored, held_in}
use Rattle.lun_extents.specs.inner.Runs.{ranges_of, items_of_runs, AreRuns, IsAlone, IsClear}
use Rattle.lun_extents.proofs.Counting.{among-alike}
use Rattle.lun_extents.proofs.Nearest.{from-nearest}
use Rattle.lun_extents.proofs.Places.{held_at-over}
use Rattle.lun_extents.proofs.Planned.{after-run}

-- the first run can be set by one extent
pub clear-alone : (entries : List (ℕ × Piece)) (lba n count : ℕ) → IsClear entries lba n → 1 ≤ count → count ≤ n → IsAlone entries lba count
clear-alone entries lba n count is some few = record {
  inside = λ b above below. is.none b (omega arith) (omega arith);
  ended = λ size i. is.past size (lba + count - 1) (1 + i) (omega arith) (omega arith);
}

-- and nothing stands behind it then
pub clear-behind : (was now : List (ℕ × Piece)) (lba n : ℕ) (p : Piece) → IsClear was lba n → 1 ≤ p.count → p.count ≤ n → stored now lba ≡ Some p
    → ((b : ℕ) → (b ≡ lba → ⊥) → stored now b ≡ stored was b) → IsClear now (lba + p.count) (n - p.count)
clear-behind was now lba n p is some few start others = record {
  none = λ b from to. others b (omega arith) ∙ is.none b (omega arith) (omega arith);
  past = λ size b i from to.
      let long = length-filled size p.count p.fill in
      from-nearest size (stored now) b lba p i (omega arith) start (λ j above below. others j (omega arith) ∙ is.none j (omega arith) (omega arith))
      ∙ held_at-over (filled size p.count p.fill) (b - lba + i) (omega arith);
}

-- no block is mapped
pub clear-unmapped : (entries : List (ℕ × Piece)) (size lba n count : ℕ) → IsClear entries lba n → count ≤ n → 0 ≡ mapped_among (held_in size entries) (row lba count)
clear-unmapped entries size lba n count is few = sym (among-alike (held_in size entries) lba count false (λ b from to. ap is_some (is.past size b 0 from (omega arith))))

-- at a failure what was set is taken out again
pub taken-back : (was now next : List (ℕ × Piece)) (range : Range) (at : ℕ) → IsClear was range.lba range.count → range.lba ≤ at → at ≤ range.lba + range.count
    → ((b : ℕ) → b < range.lba → stored now b ≡ stored was b) → ((b : ℕ) → at ≤ b → stored now b ≡ stored was b)
    → ((b : ℕ) → range.lba ≤ b → b < at → stored next b ≡ None) → ((b : ℕ) → b < range.lba → stored next b ≡ stored now b) → ((b : ℕ) → at ≤ b → stored next b ≡ stored now b)
    → (b : ℕ) → stored next b ≡ stored was b
taken-back was now next range at clear low high below above inside under over b = go (cases_lt b range.lba) (cases_lt b at)
  where
    go : (b < range.lba) ⊎ (range.lba ≤ b) → (b < at) ⊎ (at ≤ b) → stored next b ≡ stored was b
    go (inl less) _ = under b less ∙ below b less
    go (inr _) (inr more) = over b more ∙ above b more
    go (inr from) (inl to) = inside b from to ∙ sym (clear.none b from (omega arith))

-- ---- runs in a row

first-is : (lba count at n : ℕ) (more : List ℕ) → row lba count ++ more ≡ row at n → 1 ≤ count → lba ≡ at
first-is lba zero at n more is some = absurd (omega arith)
first-is lba (suc count) at zero more is some = cc
first-is lba (suc count) at (suc n) more is some = cc

rest-is : (lba count n : ℕ) (more : List ℕ) → row lba count ++ more ≡ row lba n → (count ≤ n) × (more ≡ row (lba + count) (n - count))
rest-is lba zero n more is = let e : lba + 0 ≡ lba = omega arith in let m : n - 0 ≡ n = omega arith in (omega arith, is ∙ sym (ap (λ k. row lba k) m) ∙ sym (ap (λ k. row k (n - 0)) e))
rest-is lba (suc count) zero more is = cc
rest-is lba (suc count) (suc n) more is =
    let tails : row (suc lba) count ++ more ≡ row (suc lba) n = cc in
    let rest = rest-is (suc lba) count n more tails in
    let e : suc lba + count ≡ lba + suc count = omega arith in
    let m : n - count ≡ suc n - suc count = omega arith in
    (omega (arith, rest.0), rest.1 ∙ ap (λ k. row k (n - count)) e ∙ ap (λ k. row (lba + suc count) k) m)

-- the runs before a block of a range are set, and nothing stands from there on
pub record IsSetUpTo (blocks size : ℕ) (was now : List (ℕ × Piece)) (range : Range) (at : ℕ) (done rest : List Filling) : Type 0 where
  pub low : range.lba ≤ at
  pub high : at ≤ range.lba + range.count
  pub runs : AreRuns blocks size rest
  pub rows : blocks_of (ranges_of rest) ≡ row at (range.lba + range.count - at)
  pub clear : IsClear now at (range.lba + range.count - at)
  pub below : (b : ℕ) → b < range.lba → stored now b ≡ stored was b
  pub above : (b : ℕ) → at ≤ b → stored now b ≡ stored was b
  pub held : (b : ℕ) → held_in size now b ≡ after (paired (blocks_of (ranges_of done)) (items_of_runs size done)) b (held_in size was b)

pub set-with : (blocks size : ℕ) (was now : List (ℕ × Piece)) (range : Range) (at : ℕ) (done rest : List Filling) (r : Filling) (more : List Filling)
    → IsSetUpTo blocks size was now range at done rest → rest ≡ r ∷ more → IsSetUpTo blocks size was now range at done (r ∷ more)
set-with blocks size was now range at done rest r more is same = subst (λ (l : List Filling). IsSetUpTo blocks size was now range at done l) same is

-- the next run begins there
pub next-first : (blocks size : ℕ) (was now : List (ℕ × Piece)) (range : Range) (at : ℕ) (done : List Filling) (r : Filling) (rest : List Filling)
    → IsSetUpTo blocks size was now range at done (r ∷ rest) → (r.range.lba ≡ at) × (r.range.count ≤ range.lba + range.count - at)
next-first blocks size was now range at done r rest is =
    let n = range.lba + range.count - at in
    let first = first-is r.range.lba r.range.count at n (blocks_of (ranges_of rest)) is.rows is.runs.0 in
    let rows = subst (λ k. row k r.range.count ++ blocks_of (ranges_of rest) ≡ row at n) first is.rows in
    (first, (rest-is at r.range.count n (blocks_of (ranges_of rest)) rows).0)

-- and is set
pub set-further : (blocks size : ℕ) (was now next : List (ℕ × Piece)) (range : Range) (at : ℕ) (done : List Filling) (r : Filling) (rest : List Filling) (p : Piece)
    → IsSetUpTo blocks size was now range at done (r ∷ rest) → stored next r.range.lba ≡ Some p → p.count ≡ r.range.count
    → ((b : ℕ) → (b ≡ r.range.lba → ⊥) → stored next b ≡ stored now b)
    → ((b : ℕ) → held_in size next b ≡ after (paired (row r.range.lba r.range.count) (filled size r.range.count r.fill)) b (held_in size now b))
    → IsSetUpTo blocks size was next range (at + r.range.count) (done ++ r ∷ []) rest
set-further blocks size was now next range at done r rest p is start count others held =
    let low = is.low in
    let high = is.high in
    let n = range.lba + range.count - at in
    let first = (next-first blocks size was now range at done r rest is).0 in
    let rows = subst (λ k. row k r.range.count ++ blocks_of (ranges_of rest) ≡ row at n) first is.rows in
    let more = rest-is at r.range.count n (blocks_of (ranges_of rest)) rows in
    let fits = more.0 in
    let some = is.runs.0 in
    let left : n - r.range.count ≡ range.lba + range.count - (at + r.range.count) = omega arith in
    let here : stored next at ≡ Some p = subst (λ k. stored next k ≡ Some p) first start in
    let apart : (b : ℕ) → (b ≡ at → ⊥) → stored next b ≡ stored now b = λ b other. others b (λ same. other (same ∙ first)) in
    let behind : IsClear next (at + p.count) (n - p.count) = clear-behind now next at n p is.clear (omega arith) (omega arith) here apart in
    record {
      low = omega arith;
      high = omega arith;
      runs = is.runs.3;
      rows = more.1 ∙ ap (λ k. row (at + r.range.count) k) left;
      clear = subst (λ k. IsClear next (at + r.range.count) k) left (subst (λ k. IsClear next (at + k) (n - k)) count behind);
      below = λ b under. apart b (omega arith) ∙ is.below b under;
      above = λ b over. apart b (omega arith) ∙ is.above b (omega arith);
      held = λ b. held b ∙ ap (λ (x : Held). after (paired (row r.range.lba r.range.count) (filled size r.range.count r.fill)) b x) (is.held b) ∙ after-run size done r b (held_in size was b);
    }
