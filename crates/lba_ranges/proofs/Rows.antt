-- Rows of block numbers, and the ranges that denote them
use Rattle.std.proofs.Common.{◌≡◌, ℕ, zero, suc, ◌+◌, ◌-◌, ◌<◌, ◌≤◌, List, [], ◌∷◌, ◌++◌, length, take, drop, refl, ap, sym, ◌∙◌, arith, true, get_or, add-one, append_assoc, append-nil, length-append, drop-cons}
use Rattle.std.specs.Prelude.{nat_le, slice_range, slice_get, Some}
use Rattle.std.specs.List.{AllByRecursion}
use Rattle.std.proofs.lemmas.Bool.{and_parts}
use Rattle.std.proofs.lemmas.Bool.Decides.{nat_tests}
use Rattle.std.proofs.lemmas.List.{take_more, get_or_append_left, get_or-append_right}
use Rattle.std.proofs.lemmas.List.Sums.{sum_by-cons, sum_by_push, sum_by-take-le}
use Rattle.lba_ranges.specs.declared.ranges.Range.{Range}
use Rattle.lba_ranges.specs.Denoted.{row, blocks_of, total, is_within}

pub length-row : (lba n : ℕ) → length (row lba n) ≡ n
length-row lba zero = refl
length-row lba (suc n) = ap suc (length-row (suc lba) n)

-- one more block in a row
pub row-push : (lba n : ℕ) → row lba (suc n) ≡ row lba n ++ (lba + n) ∷ []
row-push lba zero = let e : lba + 0 ≡ lba = omega arith in rw e refl
row-push lba (suc n) =
    let e : lba + suc n ≡ suc lba + n = omega arith in
    rw e (ap (λ bs. lba ∷ bs) (row-push (suc lba) n))

drop-row : (lba n k : ℕ) → drop k (row lba n) ≡ row (lba + k) (n - k)
drop-row lba n zero = let e : lba + 0 ≡ lba = omega arith in let f : n - 0 ≡ n = omega arith in rw (e, f) refl
drop-row lba zero (suc k) = let e : 0 - suc k ≡ 0 = omega arith in rw e refl
drop-row lba (suc n) (suc k) =
    let e : suc n - suc k ≡ n - k = omega arith in
    let f : lba + suc k ≡ suc lba + k = omega arith in
    rw (e, f) (drop-row (suc lba) n k)

take-row : (lba n k : ℕ) → k ≤ n → take k (row lba n) ≡ row lba k
take-row lba n zero h = refl
take-row lba zero (suc k) h = absurd (omega arith)
take-row lba (suc n) (suc k) h = ap (λ bs. lba ∷ bs) (take-row (suc lba) n k (omega arith))

-- a part of a row is a row
pub row-slice : (lba n from count : ℕ) → from + count ≤ n → slice_range (row lba n) from (from + count) ≡ row (lba + from) count
row-slice lba n from count h =
    let e : from + count - from ≡ count = omega arith in
    rw (e, drop-row lba n from) (take-row (lba + from) (n - from) count (omega arith))

pub blocks_of-append : (rs ss : List Range) → blocks_of (rs ++ ss) ≡ blocks_of rs ++ blocks_of ss
blocks_of-append [] ss = refl
blocks_of-append (r ∷ rs) ss = rw (blocks_of-append rs ss) (sym (append_assoc (row r.lba r.count) (blocks_of rs) (blocks_of ss)))

-- one more range
pub blocks_of-push : (rs : List Range) (r : Range) → blocks_of (rs ++ r ∷ []) ≡ blocks_of rs ++ row r.lba r.count
blocks_of-push rs r = blocks_of-append rs (r ∷ []) ∙ ap (λ bs. blocks_of rs ++ bs) (append-nil (row r.lba r.count))

-- the blocks of the ranges from the i-th on are those of that one and of the later ones
pub blocks_of-drop : (rs : List Range) (i : ℕ) (d : Range) → i < length rs
    → blocks_of (drop i rs) ≡ row (get_or rs i d).lba (get_or rs i d).count ++ blocks_of (drop (i + 1) rs)
blocks_of-drop rs i d h = rw (add-one, drop-cons rs i d) refl

-- the blocks of the first ranges and of the next one
pub blocks_of-more : (rs : List Range) (i : ℕ) (d : Range) → i < length rs
    → blocks_of (take (i + 1) rs) ≡ blocks_of (take i rs) ++ row (get_or rs i d).lba (get_or rs i d).count
blocks_of-more rs i d h = ap blocks_of (take_more rs i d h) ∙ blocks_of-push (take i rs) (get_or rs i d)

pub length-blocks_of : (rs : List Range) → length (blocks_of rs) ≡ total rs
length-blocks_of [] = refl
length-blocks_of (r ∷ rs) =
    length-append (row r.lba r.count) (blocks_of rs)
    ∙ (let a = length-row r.lba r.count in let b = length-blocks_of rs in let c = sum_by-cons (λ (q : Range). q.count) r rs in omega arith)

-- a range that ends within the blocks, as a number
le-within : (blocks : ℕ) (r : Range) → nat_le (r.lba + r.count) blocks ≡ true → r.lba + r.count ≤ blocks
le-within blocks r e = grind (arith, nat_tests)

-- each of the ranges ends within the blocks
pub within-read : (blocks : ℕ) (rs : List Range) (i : ℕ) (d : Range) → is_within blocks rs ≡ true → i < length rs → (get_or rs i d).lba + (get_or rs i d).count ≤ blocks
within-read blocks [] i d all h = absurd (omega arith)
within-read blocks (q ∷ rs) zero d all h = le-within blocks q (and_parts (nat_le (q.lba + q.count) blocks) (is_within blocks rs) all).0
within-read blocks (q ∷ rs) (suc i) d all h = within-read blocks rs i d (and_parts (nat_le (q.lba + q.count) blocks) (is_within blocks rs) all).1 (omega arith)

pub within-push : (blocks : ℕ) (rs : List Range) (r : Range) → is_within blocks rs ≡ true → r.lba + r.count ≤ blocks → is_within blocks (rs ++ r ∷ []) ≡ true
within-push blocks [] r all h = let e : nat_le (r.lba + r.count) blocks ≡ true = grind (arith, nat_tests) in rw e refl
within-push blocks (q ∷ rs) r all h =
    let both = and_parts (nat_le (q.lba + q.count) blocks) (is_within blocks rs) all in
    rw both.0 (within-push blocks rs r both.1 h)

-- a range at a place ends within the blocks
pub within-at : (blocks : ℕ) (rs : List Range) (k : ℕ) (r : Range) → is_within blocks rs ≡ true → slice_get rs k ≡ Some r → r.lba + r.count ≤ blocks
within-at blocks [] k r all e = cc
within-at blocks (q ∷ rs) zero r all e =
    let same : q ≡ r = cc in
    let first = le-within blocks q (and_parts (nat_le (q.lba + q.count) blocks) (is_within blocks rs) all).0 in
    rw same at first
within-at blocks (q ∷ rs) (suc k) r all e = within-at blocks rs k r (and_parts (nat_le (q.lba + q.count) blocks) (is_within blocks rs) all).1 e

-- ranges that end within some blocks end within more blocks
pub within-more : (blocks more : ℕ) (rs : List Range) → blocks ≤ more → is_within blocks rs ≡ true → is_within more rs ≡ true
within-more blocks more [] h all = refl
within-more blocks more (q ∷ rs) h all =
    let both = and_parts (nat_le (q.lba + q.count) blocks) (is_within blocks rs) all in
    let low = le-within blocks q both.0 in
    let first : nat_le (q.lba + q.count) more ≡ true = grind (arith, nat_tests) in
    rw first (within-more blocks more rs h both.1)

-- the first ones and the next one
pub take-get : {X : Type 0} (xs : List X) (n : ℕ) (x : X) → slice_get xs n ≡ Some x → take (n + 1) xs ≡ take n xs ++ x ∷ []
take-get [] n x e = cc
take-get (y ∷ xs) zero x e = let same : y ≡ x = cc in rw same refl
take-get (y ∷ xs) (suc n) x e = let next : suc n + 1 ≡ suc (n + 1) = omega arith in rw next (ap (λ l. y ∷ l) (take-get xs n x e))

pub blocks_of-get : (rs : List Range) (k : ℕ) (r : Range) → slice_get rs k ≡ Some r
    → blocks_of (take (k + 1) rs) ≡ blocks_of (take k rs) ++ row r.lba r.count
blocks_of-get rs k r e = ap blocks_of (take-get rs k r e) ∙ blocks_of-push (take k rs) r

-- the first ranges denote no more blocks than all of them
pub total-take : (rs : List Range) (k : ℕ) → total (take k rs) ≤ total rs
total-take rs k = sum_by-take-le (λ (r : Range). r.count) rs k

pub total-get : (rs : List Range) (k : ℕ) (r : Range) → slice_get rs k ≡ Some r → total (take k rs) + r.count ≤ total rs
total-get rs k r e =
    let next = ap total (take-get rs k r e) ∙ sum_by_push (λ (q : Range). q.count) (take k rs) r in
    let all = total-take rs (k + 1) in
    omega arith

row-below : (n lba count : ℕ) → lba + count ≤ n → AllByRecursion (λ b. b < n) (row lba count)
row-below n lba zero h = tt
row-below n lba (suc count) h = (omega arith, row-below n (suc lba) count (omega arith))

append-below : (n : ℕ) (xs ys : List ℕ) → AllByRecursion (λ b. b < n) xs → AllByRecursion (λ b. b < n) ys → AllByRecursion (λ b. b < n) (xs ++ ys)
append-below n [] ys a b = b
append-below n (x ∷ xs) ys a b = (a.0, append-below n xs ys a.1 b)

-- ranges within some blocks denote these blocks alone
pub blocks_of-below : (n : ℕ) (rs : List Range) → is_within n rs ≡ true → AllByRecursion (λ b. b < n) (blocks_of rs)
blocks_of-below n [] all = tt
blocks_of-below n (r ∷ rs) all =
    let both = and_parts (nat_le (r.lba + r.count) n) (is_within n rs) all in
    append-below n (row r.lba r.count) (blocks_of rs) (row-below n r.lba r.count (le-within n r both.0)) (blocks_of-below n rs both.1)

get-row : (lba count k : ℕ) → k < count → get_or (row lba count) k 0 ≡ lba + k
get-row lba zero k h = absurd (omega arith)
get-row lba (suc count) zero h = let e : lba + 0 ≡ lba = omega arith in sym e
get-row lba (suc count) (suc k) h = let e : lba + suc k ≡ suc lba + k = omega arith in rw e (get-row (suc lba) count k (omega arith))

-- the block at a place is one of the next range, or one of the later ranges
pub block-here : (rs : List Range) (i k : ℕ) (d : Range) → i < length rs → k < (get_or rs i d).count
    → get_or (blocks_of (drop i rs)) k 0 ≡ (get_or rs i d).lba + k
block-here rs i k d h low =
    let r = get_or rs i d in
    let long = length-row r.lba r.count in
    ap (λ bs. get_or bs k 0) (blocks_of-drop rs i d h)
    ∙ get_or_append_left (row r.lba r.count) (blocks_of (drop (i + 1) rs)) 0 k (omega arith)
    ∙ get-row r.lba r.count k low

pub block-later : (rs : List Range) (i k : ℕ) (d : Range) → i < length rs → (get_or rs i d).count ≤ k
    → get_or (blocks_of (drop i rs)) k 0 ≡ get_or (blocks_of (drop (i + 1) rs)) (k - (get_or rs i d).count) 0
block-later rs i k d h high =
    let r = get_or rs i d in
    ap (λ bs. get_or bs k 0) (blocks_of-drop rs i d h)
    ∙ get_or-append_right (row r.lba r.count) (blocks_of (drop (i + 1) rs)) r.count k 0 (length-row r.lba r.count) high

pub length-later : (rs : List Range) (i : ℕ) (d : Range) → i < length rs
    → length (blocks_of (drop i rs)) ≡ (get_or rs i d).count + length (blocks_of (drop (i + 1) rs))
length-later rs i d h =
    let r = get_or rs i d in
    ap length (blocks_of-drop rs i d h) ∙ length-append (row r.lba r.count) (blocks_of (drop (i + 1) rs))
    ∙ ap (λ n. n + length (blocks_of (drop (i + 1) rs))) (length-row r.lba r.count)
