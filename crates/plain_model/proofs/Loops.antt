-- What the loops of the plain answers make of the first elements of a list
use Rattle.std.proofs.Common.{◌≡◌, ℕ, zero, suc, ◌+◌, ◌-◌, ◌<◌, ◌≤◌, List, [], ◌∷◌, ◌++◌, length, take, drop, get_or, refl, ap, sym, ◌∙◌, arith, length-append, add-one}
use Rattle.std.specs.Prelude.{◌==◌, map, reverse, if◌then◌else◌, None}
use Rattle.std.proofs.lemmas.List.{reverse-append, take_more, map-append, take-append-drop, length-take-le}
use Rattle.lba_ranges.specs.HeldBlocks.{held_at}
use Rattle.lba_ranges.specs.Denoted.{row}
use Rattle.lba_ranges.specs.Writings.{Held, after, paired, unmapped}
use Rattle.lba_ranges.proofs.PublicLaws.{take-held, length-row, row-push, after-append, paired-push, unmapped-append}
use Rattle.plain_model.specs.declared.writings.PlainWriting.{PlainWriting}
use Rattle.plain_model.specs.inner.Writings.{writing_of}
use Rattle.cm_history.specs.Deeds.{Deed}
use Rattle.cm_history.specs.Operations.{written_by}
use Rattle.cm_history.proofs.PublicLaws.{length-take-short as length-take_count}

-- the first elements and one more, the latest first
pub reverse-more : {X : Type 0} (xs : List X) (i : ℕ) (x : X) → i < length xs → x ≡ get_or xs i x → reverse (take (i + 1) xs) ≡ x ∷ reverse (take i xs)
reverse-more xs i x there is =
    ap reverse (take_more xs i x there ∙ ap (λ y. take i xs ++ y ∷ []) (sym is)) ∙ reverse-append (take i xs) (x ∷ [])

pub reverse-push : {X : Type 0} (xs : List X) (x : X) → reverse (xs ++ x ∷ []) ≡ x ∷ reverse xs
reverse-push xs x = reverse-append xs (x ∷ [])

pub taken-more : (ws : List PlainWriting) (i : ℕ) (w : PlainWriting) → i < length ws → w ≡ get_or ws i w
    → map writing_of (take (i + 1) ws) ≡ map writing_of (take i ws) ++ writing_of w ∷ []
taken-more ws i w there is =
    ap (map writing_of) (take_more ws i w there ∙ ap (λ x. take i ws ++ x ∷ []) (sym is)) ∙ map-append writing_of (take i ws) (w ∷ [])

pub held-more : (ws : List PlainWriting) (i : ℕ) (w : PlainWriting) (b : ℕ) (was : Held) → i < length ws → w ≡ get_or ws i w
    → after (map writing_of (take (i + 1) ws)) b was ≡ (if w.block == b then w.held else after (map writing_of (take i ws)) b was)
held-more ws i w b was there is =
    ap (λ l. after l b was) (taken-more ws i w there is) ∙ after-append (map writing_of (take i ws)) (writing_of w ∷ []) b was

pub write-more : (lba i : ℕ) (items : List Held) (x : Held) → i < length items → x ≡ held_at items i
    → paired (row lba i) (take i items) ++ (record { block = lba + i; held = x }) ∷ [] ≡ paired (row lba (i + 1)) (take (i + 1) items)
write-more lba i items x there is =
    let rows : row lba (i + 1) ≡ row lba i ++ (lba + i) ∷ [] = ap (row lba) (add-one i) ∙ row-push lba i in
    let taken : take (i + 1) items ≡ take i items ++ x ∷ [] = take-held items i there ∙ ap (λ y. take i items ++ y ∷ []) (sym is) in
    let long : length (row lba i) ≡ length (take i items) = length-row lba i ∙ sym (length-take-le i items (omega arith)) in
    sym (paired-push (row lba i) (take i items) (lba + i) x long)
    ∙ ap (λ r. paired r (take i items ++ x ∷ [])) (sym rows)
    ∙ ap (λ t. paired (row lba (i + 1)) t) (sym taken)

pub unmapped-more : (bs : List ℕ) (i : ℕ) (b : ℕ) → i < length bs → b ≡ get_or bs i 0
    → unmapped (take (i + 1) bs) ≡ unmapped (take i bs) ++ (record { block = b; held = None }) ∷ []
unmapped-more bs i b there is =
    ap unmapped (take_more bs i 0 there ∙ ap (λ x. take i bs ++ x ∷ []) (sym is)) ∙ unmapped-append (take i bs) (b ∷ [])

-- one more block, where the list has an item for it
pub paired-last : (bs : List ℕ) (xs : List Held) (b : ℕ) → length bs < length xs
    → paired (bs ++ b ∷ []) xs ≡ paired bs xs ++ (record { block = b; held = held_at xs (length bs) }) ∷ []
paired-last [] [] b h = absurd (omega arith)
paired-last [] (x ∷ xs) b h = refl
paired-last (c ∷ bs) [] b h = absurd (omega arith)
paired-last (c ∷ bs) (x ∷ xs) b h = ap (λ l. record { block = c; held = x } ∷ l) (paired-last bs xs b (omega arith))

pub paired-short : (bs : List ℕ) (xs : List Held) (b : ℕ) → length xs ≤ length bs → paired (bs ++ b ∷ []) xs ≡ paired bs xs
paired-short [] [] b h = refl
paired-short [] (x ∷ xs) b h = absurd (omega arith)
paired-short (c ∷ bs) [] b h = refl
paired-short (c ∷ bs) (x ∷ xs) b h = ap (λ l. record { block = c; held = x } ∷ l) (paired-short bs xs b (omega arith))

take-nil : {X : Type 0} (n : ℕ) → take {A = X} n [] ≡ []
take-nil zero = refl
take-nil (suc n) = refl

drop-nil : {X : Type 0} (n : ℕ) → drop {A = X} n [] ≡ []
drop-nil zero = refl
drop-nil (suc n) = refl

-- one more block of ranges, and the item of the list at its place
pub paired-more : (bs : List ℕ) (i : ℕ) (xs : List Held) (b : ℕ) (x : Held) → i < length bs → b ≡ get_or bs i 0 → i < length xs → x ≡ held_at xs i
    → paired (take (i + 1) bs) xs ≡ paired (take i bs) xs ++ (record { block = b; held = x }) ∷ []
paired-more bs i xs b x there is inside held =
    let long : length (take i bs) ≡ i = length-take-le i bs (omega arith) in
    ap (λ l. paired l xs) (take_more bs i 0 there ∙ ap (λ y. take i bs ++ y ∷ []) (sym is))
    ∙ paired-last (take i bs) xs b (omega (arith, long))
    ∙ ap (λ n. paired (take i bs) xs ++ (record { block = b; held = held_at xs n }) ∷ []) long
    ∙ ap (λ y. paired (take i bs) xs ++ (record { block = b; held = y }) ∷ []) (sym held)

pub paired-no_more : (bs : List ℕ) (i : ℕ) (xs : List Held) → i < length bs → length xs ≤ i → paired (take (i + 1) bs) xs ≡ paired (take i bs) xs
paired-no_more bs i xs there past =
    let long : length (take i bs) ≡ i = length-take-le i bs (omega arith) in
    ap (λ l. paired l xs) (take_more bs i 0 there) ∙ paired-short (take i bs) xs _ (omega (arith, long))

-- one more element, which is in the part
pub part-in : {X : Type 0} (xs : List X) (from count : ℕ) (x : X) → from ≤ length xs → length xs - from < count
    → take count (drop from (xs ++ x ∷ [])) ≡ take count (drop from xs) ++ x ∷ []
part-in [] zero zero x a b = absurd (omega arith)
part-in [] zero (suc count) x a b = ap (λ l. x ∷ l) (take-nil count)
part-in [] (suc from) count x a b = absurd (omega arith)
part-in (y ∷ xs) zero zero x a b = absurd (omega arith)
part-in (y ∷ xs) zero (suc count) x a b = ap (λ l. y ∷ l) (part-in xs zero count x (omega arith) (omega arith))
part-in (y ∷ xs) (suc from) count x a b = part-in xs from count x (omega arith) (omega arith)

pub part-before : {X : Type 0} (xs : List X) (from count : ℕ) (x : X) → length xs < from
    → take count (drop from (xs ++ x ∷ [])) ≡ take count (drop from xs)
part-before [] zero count x a = absurd (omega arith)
part-before [] (suc from) count x a = ap (take count) (drop-nil from)
part-before (y ∷ xs) zero count x a = absurd (omega arith)
part-before (y ∷ xs) (suc from) count x a = part-before xs from count x (omega arith)

pub part-behind : {X : Type 0} (xs : List X) (from count : ℕ) (x : X) → from ≤ length xs → count ≤ length xs - from
    → take count (drop from (xs ++ x ∷ [])) ≡ take count (drop from xs)
part-behind xs zero zero x a b = refl
part-behind [] zero (suc count) x a b = absurd (omega arith)
part-behind (y ∷ xs) zero (suc count) x a b = ap (λ l. y ∷ l) (part-behind xs zero count x (omega arith) (omega arith))
part-behind [] (suc from) count x a b = absurd (omega arith)
part-behind (y ∷ xs) (suc from) count x a b = part-behind xs from count x (omega arith) (omega arith)

-- one more block of a row
pub row-more : (lba n : ℕ) → row lba (n + 1) ≡ row lba n ++ (lba + n) ∷ []
row-more lba n = ap (row lba) (add-one n) ∙ row-push lba n

pub map-more : (f : ℕ → Held) (bs : List ℕ) (i : ℕ) → i < length bs → map f (take (i + 1) bs) ≡ map f (take i bs) ++ f (get_or bs i 0) ∷ []
map-more f bs i there = ap (map f) (take_more bs i 0 there) ∙ map-append f (take i bs) (get_or bs i 0 ∷ [])

-- ---- how much deeds wrote

pub written-append : (xs ys : List Deed) → length (written_by (xs ++ ys)) ≡ length (written_by xs) + length (written_by ys)
written-append [] ys = omega arith
written-append (d ∷ xs) ys =
    let ih = written-append xs ys in
    let a = length-append (written_by (xs ++ ys)) d.wrote in
    let b = length-append (written_by xs) d.wrote in
    omega arith

-- the first deeds wrote no more than all
pub written-front : (xs : List Deed) (i : ℕ) → length (written_by (reverse (take i xs))) ≤ length (written_by (reverse xs))
written-front xs i =
    let whole : length (written_by (reverse xs)) ≡ length (written_by (reverse (drop i xs) ++ reverse (take i xs))) =
    ap (λ l. length (written_by l)) (ap reverse (sym (take-append-drop i xs)) ∙ reverse-append (take i xs) (drop i xs)) in
    let sum = written-append (reverse (drop i xs)) (reverse (take i xs)) in
    omega arith

pub written-more : (xs : List Deed) (i : ℕ) (d : Deed) → i < length xs → d ≡ get_or xs i d
    → length (written_by (reverse (take (i + 1) xs))) ≡ length (written_by (reverse (take i xs))) + length d.wrote
written-more xs i d there is =
    ap (λ l. length (written_by l)) (reverse-more xs i d there is) ∙ length-append (written_by (reverse (take i xs))) d.wrote

-- the steps of a walk over deeds
pub ruleset walks = (reverse-more, reverse-push, written-more, written-front)

-- the steps of a walk over writings
pub ruleset places = (taken-more, unmapped-more, unmapped-append, length-take_count)
