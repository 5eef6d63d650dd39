-- Lemmas on runs, one after the other
use Rattle.std.proofs.Common.{◌≡◌, ℕ, zero, suc, ◌+◌, ◌-◌, ◌<◌, ◌≤◌, List, [], ◌∷◌, ◌++◌, length, take, drop, get_or, refl, ap, sym, ◌∙◌, arith, length-append, length-drop, slice_set, add-one, drop-cons, subst, inl, inr}
use Rattle.std.specs.Prelude.{Option, Some, None, slice_get, map, is_some, slice_range}
use Rattle.std.specs.List.{count_by}
use Rattle.std.specs.List.Sorted.{IsNonDecreasingBy}
use Rattle.std.proofs.lemmas.Bool.{cases_lt}
use Rattle.std.proofs.lemmas.List.{take_more, take_all, take-append-le}
use Rattle.std.proofs.lemmas.Grind.{common_steps}
use Rattle.lba_ranges.specs.declared.fill.Fill.TheVariants.{Hole}
use Rattle.lba_ranges.specs.declared.runs.PlacedPiece.{PlacedPiece}
use Rattle.lba_ranges.specs.HeldBlocks.{filled, IsFull, held_at}
use Rattle.lba_ranges.specs.inner.HeldBlocks.{items_of, AllFull}
use Rattle.lba_ranges.specs.inner.Runs.{pieces_of, Spans, IsFirstAfter, later}
use Rattle.lba_ranges.proofs.Cells.{count-append, length-filled, items_of-push, held_at-front}
use Rattle.lba_ranges.proofs.Windows.{drop-append-all}

pub pieces_of-append : (rs ss : List PlacedPiece) → pieces_of (rs ++ ss) ≡ pieces_of rs ++ pieces_of ss
pieces_of-append [] ss = refl
pieces_of-append (r ∷ rs) ss = ap (λ l. r.piece ∷ l) (pieces_of-append rs ss)

-- the runs from the k-th on are that one and those after it
pub items_of-drop : (size : ℕ) (rs : List PlacedPiece) (k : ℕ) (r : PlacedPiece) → k < length rs → r ≡ get_or rs k r
    → items_of size (pieces_of (drop k rs)) ≡ filled size r.piece.count r.piece.fill ++ items_of size (pieces_of (drop (k + 1) rs))
items_of-drop size rs k r h is = rw (add-one, drop-cons rs k r, ← is) refl

-- one more run of a walk
pub items_of-more : (size : ℕ) (rs : List PlacedPiece) (k : ℕ) (r : PlacedPiece) → k < length rs → r ≡ get_or rs k r
    → items_of size (pieces_of (take (k + 1) rs)) ≡ items_of size (pieces_of (take k rs)) ++ filled size r.piece.count r.piece.fill
items_of-more size rs k r h is =
    ap (λ l. items_of size (pieces_of l)) (take_more rs k r h)
    ∙ ap (items_of size) (pieces_of-append (take k rs) (get_or rs k r ∷ []))
    ∙ items_of-push size (pieces_of (take k rs)) (get_or rs k r).piece
    ∙ rw (← is) refl

pub AllFull-at : (size : ℕ) (rs : List PlacedPiece) (k : ℕ) (r : PlacedPiece) → AllFull size (pieces_of rs) → k < length rs → r ≡ get_or rs k r → IsFull size r.piece.count r.piece.fill
AllFull-at size [] k r all h is = absurd (omega arith)
AllFull-at size (q ∷ rs) zero r all h is = subst (λ (s : PlacedPiece). IsFull size s.piece.count s.piece.fill) (sym is) all.0
AllFull-at size (q ∷ rs) (suc k) r all h is = AllFull-at size rs k r all.1 (omega arith) is

pub AllFull-drop : (size : ℕ) (rs : List PlacedPiece) (k : ℕ) → AllFull size (pieces_of rs) → AllFull size (pieces_of (drop k rs))
AllFull-drop size rs zero all = all
AllFull-drop size [] (suc k) all = tt
AllFull-drop size (r ∷ rs) (suc k) all = AllFull-drop size rs k all.1

-- ---- where runs end

abbrev hole_of : ℕ → ℕ → PlacedPiece
hole_of end count = record { end = end; piece = record { count = count; fill = Hole } }

pub Spans-length : (size start end : ℕ) (rs : List PlacedPiece) → Spans start rs end → end ≡ start + length (items_of size (pieces_of rs))
Spans-length size start end [] spans = omega (arith, spans)
Spans-length size start end (r ∷ rs) spans =
    let later = Spans-length size r.end end rs spans.1 in
    let long = length-filled size r.piece.count r.piece.fill in
    omega (arith, spans.0, length-append (filled size r.piece.count r.piece.fill) (items_of size (pieces_of rs)))

pub Spans-append : (start mid end : ℕ) (rs ss : List PlacedPiece) → Spans start rs mid → Spans mid ss end → Spans start (rs ++ ss) end
Spans-append start mid end [] ss a b = subst (λ n. Spans n ss end) (sym a) b
Spans-append start mid end (r ∷ rs) ss a b = (a.0, Spans-append r.end mid end rs ss a.1 b)

pub Spans-push : (start before : ℕ) (rs : List PlacedPiece) (r : PlacedPiece) → Spans start rs before → r.end ≡ before + r.piece.count → Spans start (rs ++ r ∷ []) r.end
Spans-push start before rs r spans e = Spans-append start before r.end rs (r ∷ []) spans (e, refl)

Spans-moved : (start end by : ℕ) (rs : List PlacedPiece) → Spans start rs end → Spans (by + start) (map (later by) rs) (by + end)
Spans-moved start end by [] spans = ap (λ n. by + n) spans
Spans-moved start end by (r ∷ rs) spans =
    let same : r.end + by ≡ by + r.end = omega arith in
    (omega (arith, spans.0), subst (λ n. Spans n (map (later by) rs) (by + end)) (sym same) (Spans-moved r.end end by rs spans.1))

pub Spans-later : (end by : ℕ) (rs : List PlacedPiece) → Spans 0 rs end → Spans by (map (later by) rs) (by + end)
Spans-later end by rs spans = let same : by + 0 ≡ by = omega arith in rw same at (Spans-moved 0 end by rs spans)

pub pieces_of-later : (by : ℕ) (rs : List PlacedPiece) → pieces_of (map (later by) rs) ≡ pieces_of rs
pieces_of-later by [] = refl
pieces_of-later by (r ∷ rs) = ap (λ l. r.piece ∷ l) (pieces_of-later by rs)

-- one more run ends later
pub later-more : (by : ℕ) (rs : List PlacedPiece) (i : ℕ) (d : PlacedPiece) → i < length rs
    → let now = map (later by) (take i rs) ++ drop i rs in
    slice_set now i (later by (get_or now i d)) ≡ map (later by) (take (i + 1) rs) ++ drop (i + 1) rs
later-more by [] i d h = absurd (omega arith)
later-more by (r ∷ rs) zero d h = refl
later-more by (r ∷ rs) (suc i) d h = let e : suc i + 1 ≡ suc (i + 1) = omega arith in rw e (ap (λ l. later by r ∷ l) (later-more by rs i d (omega arith)))

Spans-above : (start end : ℕ) (rs : List PlacedPiece) (k : ℕ) (d : PlacedPiece) → Spans start rs end → k < length rs → start + (get_or rs k d).piece.count ≤ (get_or rs k d).end
Spans-above start end [] k d spans h = absurd (omega arith)
Spans-above start end (r ∷ rs) zero d spans h = omega (arith, spans.0)
Spans-above start end (r ∷ rs) (suc k) d spans h =
    let above = Spans-above r.end end rs k d spans.1 (omega arith) in
    omega (arith, spans.0)

Spans-whole : (start end : ℕ) (rs : List PlacedPiece) → Spans start rs end → start ≤ end
Spans-whole start end [] spans = omega (arith, spans)
Spans-whole start end (r ∷ rs) spans = let rest = Spans-whole r.end end rs spans.1 in omega (arith, spans.0)

-- each run ends within the whole
pub Spans-within : (start end : ℕ) (rs : List PlacedPiece) (k : ℕ) (d : PlacedPiece) → Spans start rs end → k < length rs → (get_or rs k d).end ≤ end
Spans-within start end [] k d spans h = absurd (omega arith)
Spans-within start end (r ∷ rs) zero d spans h = Spans-whole r.end end rs spans.1
Spans-within start end (r ∷ rs) (suc k) d spans h = Spans-within r.end end rs k d spans.1 (omega arith)

pub Spans-rise : (start end : ℕ) (rs : List PlacedPiece) → Spans start rs end → IsNonDecreasingBy (λ (r : PlacedPiece). r.end) rs
Spans-rise start end [] spans i j d le lt = absurd (omega arith)
Spans-rise start end (r ∷ rs) spans zero zero d le lt = omega arith
Spans-rise start end (r ∷ rs) spans zero (suc j) d le lt = let above = Spans-above r.end end rs j d spans.1 (omega arith) in omega arith
Spans-rise start end (r ∷ rs) spans (suc i) zero d le lt = absurd (omega arith)
Spans-rise start end (r ∷ rs) spans (suc i) (suc j) d le lt = Spans-rise r.end end rs spans.1 i j d (omega arith) (omega arith)

-- the first run that ends after a place begins no later
run-from : (start end : ℕ) (rs : List PlacedPiece) (k place : ℕ) (d : PlacedPiece) → Spans start rs end → k < length rs → start ≤ place
    → ((i : ℕ) → i < k → (get_or rs i d).end ≤ place) → (get_or rs k d).end ≤ place + (get_or rs k d).piece.count
run-from start end [] k place d spans h low before = absurd (omega arith)
run-from start end (r ∷ rs) zero place d spans h low before = omega (arith, spans.0)
run-from start end (r ∷ rs) (suc k) place d spans h low before =
    run-from r.end end rs k place d spans.1 (omega arith) (before 0 (omega arith)) (λ i lt. before (suc i) (omega arith))

-- what follows a place begins in the first run that ends after it
drop-run : (size start end : ℕ) (rs : List PlacedPiece) (k place at : ℕ) (d : PlacedPiece) → Spans start rs end → k < length rs → start ≤ place
    → ((i : ℕ) → i < k → (get_or rs i d).end ≤ place) → at + (get_or rs k d).end ≡ place + (get_or rs k d).piece.count
    → drop (place - start) (items_of size (pieces_of rs)) ≡ drop at (items_of size (pieces_of (drop k rs)))
drop-run size start end [] k place at d spans h low before e = absurd (omega arith)
drop-run size start end (r ∷ rs) zero place at d spans h low before e = let same : place - start ≡ at = omega (arith, spans.0) in rw same refl
drop-run size start end (r ∷ rs) (suc k) place at d spans h low before e =
    let first : r.end ≤ place = before 0 (omega arith) in
    let long = length-filled size r.piece.count r.piece.fill in
    let blocks = filled size r.piece.count r.piece.fill in
    let past : place - start - length blocks ≡ place - r.end = omega (arith, spans.0) in
    let none : drop (place - start) blocks ≡ [] = grind (arith, common_steps) in
    drop-append-all blocks (items_of size (pieces_of rs)) (place - start)
    ∙ rw (none, past) (drop-run size r.end end rs k place at d spans.1 (omega arith) first (λ i lt. before (suc i) (omega arith)) e)

-- the run that a place of the list is in, and what follows the place
pub record StandsIn (rs : List PlacedPiece) (place k : ℕ) (r : PlacedPiece) : Type 0 where
  pub within : k < length rs
  pub is : r ≡ get_or rs k r
  pub from : r.end ≤ place + r.piece.count
  pub to : place < r.end
  pub rest : (size at : ℕ) → at + r.end ≡ place + r.piece.count → drop place (items_of size (pieces_of rs)) ≡ drop at (items_of size (pieces_of (drop k rs)))

pub stands-in : (end : ℕ) (rs : List PlacedPiece) (place k : ℕ) (r : PlacedPiece) → Spans 0 rs end → IsFirstAfter rs place k → k < length rs → r ≡ get_or rs k r → StandsIn rs place k r
stands-in end rs place k r spans first within is =
    let from = run-from 0 end rs k place r spans within (omega arith) (λ i h. first.before i r h) in
    let after = first.after r within in
    let whole : place - 0 ≡ place = omega arith in
    record {
      within = within;
      is = is;
      from = rw (← is) at from;
      to = rw (← is) at after;
      rest = λ size at e. rw whole at (drop-run size 0 end rs k place at r spans within (omega arith) (λ i h. first.before i r h) (rw (← is) e));
    }

held_at-drop : (xs : List (Option (List ℕ))) (i : ℕ) → held_at xs i ≡ held_at (drop i xs) 0
held_at-drop xs zero = refl
held_at-drop [] (suc i) = refl
held_at-drop (x ∷ xs) (suc i) = held_at-drop xs i

-- the block at a place is one of the run in which it stands
pub held-in_run : (size : ℕ) (rs : List PlacedPiece) (place k at : ℕ) (r : PlacedPiece) → StandsIn rs place k r → at + r.end ≡ place + r.piece.count
    → held_at (items_of size (pieces_of rs)) place ≡ held_at (filled size r.piece.count r.piece.fill) at
held-in_run size rs place k at r stands e =
    let all = items_of size (pieces_of rs) in
    let rest = items_of size (pieces_of (drop k rs)) in
    let later = items_of size (pieces_of (drop (k + 1) rs)) in
    let near : at < r.piece.count = omega (arith, stands.to) in
    held_at-drop all place
    ∙ ap (λ l. held_at l 0) (stands.rest size at e)
    ∙ sym (held_at-drop rest at)
    ∙ ap (λ l. held_at l at) (items_of-drop size rs k r stands.within stands.is)
    ∙ held_at-front (filled size r.piece.count r.piece.fill) later r.piece.count at (length-filled size r.piece.count r.piece.fill) near

-- the runs from one on, as a part of them
pub runs-from : (rs : List PlacedPiece) (k : ℕ) → take (length rs - k) (drop k rs) ≡ drop k rs
runs-from rs k = take_all (length rs - k) (drop k rs) (omega (arith, length-drop k rs))

-- the blocks from a place on are those from its place in the run on
pub window-in_run : (size : ℕ) (rs : List PlacedPiece) (place k at count : ℕ) (r : PlacedPiece) → StandsIn rs place k r → at + r.end ≡ place + r.piece.count → 0 < count
    → place + count ≤ length (items_of size (pieces_of rs))
    → let rest = items_of size (pieces_of (take (length rs - k) (drop k rs))) in
    (at + count ≤ length rest) × (slice_range rest at (at + count) ≡ slice_range (items_of size (pieces_of rs)) place (place + count))
window-in_run size rs place k at count r stands e some enough =
    let all = items_of size (pieces_of rs) in
    let rest = items_of size (pieces_of (drop k rs)) in
    let long = ap length (stands.rest size at e) in
    let same : at + count - at ≡ count = omega arith in
    let same' : place + count - place ≡ count = omega arith in
    rw (runs-from rs k) (omega (arith, long, length-drop place all, length-drop at rest), rw (same, same') (ap (take count) (sym (stands.rest size at e))))

take-drop-front : {X : Type 0} (xs ys : List X) (k n : ℕ) → k + n ≤ length xs → take n (drop k (xs ++ ys)) ≡ take n (drop k xs)
take-drop-front xs ys zero n h = take-append-le n xs ys (omega arith)
take-drop-front [] ys (suc k) n h = absurd (omega arith)
take-drop-front (x ∷ xs) ys (suc k) n h = take-drop-front xs ys k n (omega arith)

-- blocks of the run in which a place stands are those of the list from there on
pub part-in_run : (size : ℕ) (rs : List PlacedPiece) (place k at n : ℕ) (r : PlacedPiece) → StandsIn rs place k r → at + r.end ≡ place + r.piece.count → at + n ≤ r.piece.count
    → slice_range (filled size r.piece.count r.piece.fill) at (at + n) ≡ slice_range (items_of size (pieces_of rs)) place (place + n)
part-in_run size rs place k at n r stands e enough =
    let front = filled size r.piece.count r.piece.fill in
    let later = items_of size (pieces_of (drop (k + 1) rs)) in
    let fits : at + n ≤ length front = omega (arith, length-filled size r.piece.count r.piece.fill) in
    let same : at + n - at ≡ n = omega arith in
    let same' : place + n - place ≡ n = omega arith in
    rw (same, same') (sym (ap (take n) (stands.rest size at e ∙ ap (drop at) (items_of-drop size rs k r stands.within stands.is)) ∙ take-drop-front front later at n fits))

-- where no run ends after a place no block stands there
Spans-end : (start end : ℕ) (rs : List PlacedPiece) (place : ℕ) (d : PlacedPiece) → Spans start rs end → start ≤ place
    → ((i : ℕ) → i < length rs → (get_or rs i d).end ≤ place) → end ≤ place
Spans-end start end [] place d spans low before = omega (arith, spans)
Spans-end start end (r ∷ rs) place d spans low before =
    Spans-end r.end end rs place d spans.1 (before 0 (omega arith)) (λ i lt. before (suc i) (omega arith))

pub first-past : (end : ℕ) (rs : List PlacedPiece) (place k : ℕ) → Spans 0 rs end → IsFirstAfter rs place k → length rs ≤ k → end ≤ place
first-past end rs place k spans first past =
    Spans-end 0 end rs place (hole_of 0 0) spans (omega arith) (λ i h. first.before i (hole_of 0 0) (omega arith))

-- a place before the end is in some run
pub first-within : (end : ℕ) (rs : List PlacedPiece) (place k : ℕ) → Spans 0 rs end → IsFirstAfter rs place k → place < end → k < length rs
first-within end rs place k spans first low = elim (cases_lt k (length rs)) [
  | inl within ↦ within
  | inr past ↦ absurd (omega (arith, first-past end rs place k spans first past))
]

pub held-past : (xs : List (Option (List ℕ))) (i : ℕ) → length xs ≤ i → held_at xs i ≡ None
held-past [] i h = refl
held-past (x ∷ xs) zero h = absurd (omega arith)
held-past (x ∷ xs) (suc i) h = held-past xs i (omega arith)

-- ---- a hole at the end that takes in more

pub pieces_of-set : (rs : List PlacedPiece) (k : ℕ) (r : PlacedPiece) → pieces_of (slice_set rs k r) ≡ slice_set (pieces_of rs) k r.piece
pieces_of-set [] k r = refl
pieces_of-set (q ∷ rs) zero r = refl
pieces_of-set (q ∷ rs) (suc k) r = ap (λ l. q.piece ∷ l) (pieces_of-set rs k r)

pub pieces_of-get : (rs : List PlacedPiece) (k : ℕ) (r : PlacedPiece) → slice_get rs k ≡ Some r → slice_get (pieces_of rs) k ≡ Some r.piece
pieces_of-get [] k r is = cc
pieces_of-get (q ∷ rs) zero r is = let same : q ≡ r = cc in rw same refl
pieces_of-get (q ∷ rs) (suc k) r is = pieces_of-get rs k r is

pub length-pieces : (rs : List PlacedPiece) → length (pieces_of rs) ≡ length rs
length-pieces [] = refl
length-pieces (r ∷ rs) = ap suc (length-pieces rs)

pub Spans-widened : (start before : ℕ) (rs : List PlacedPiece) (k count more : ℕ) (last : PlacedPiece) → k + 1 ≡ length rs → more ≤ count
    → slice_get rs k ≡ Some last → last.piece.count ≡ count - more → Spans start rs before
    → Spans start (slice_set rs k (hole_of (before + more) count)) (before + more)
Spans-widened start before [] k count more last end h is e spans = absurd (omega (arith, end))
Spans-widened start before (r ∷ []) zero count more last end h is e spans =
    let same : r ≡ last = cc in
    let had : r.piece.count ≡ count - more = rw same e in
    (omega (arith, spans.0, spans.1), refl)
Spans-widened start before (r ∷ q ∷ rs) zero count more last end h is e spans = absurd (omega (arith, end))
Spans-widened start before (r ∷ rs) (suc k) count more last end h is e spans =
    (spans.0, Spans-widened r.end before rs k count more last (omega (arith, end)) h is e spans.1)

-- ---- how many blocks are mapped

-- the runs from a place on
pub count-drop : (size : ℕ) (rs : List PlacedPiece) (k : ℕ) (r : PlacedPiece) → k < length rs → r ≡ get_or rs k r
    → count_by is_some (items_of size (pieces_of (drop k rs)))
    ≡ count_by is_some (filled size r.piece.count r.piece.fill) + count_by is_some (items_of size (pieces_of (drop (k + 1) rs)))
count-drop size rs k r h is =
    ap (count_by is_some) (items_of-drop size rs k r h is)
    ∙ count-append (filled size r.piece.count r.piece.fill) (items_of size (pieces_of (drop (k + 1) rs)))
