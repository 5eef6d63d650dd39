-- Blocks in a map: how many there are, and what is put there
use Rattle.std.proofs.Common.{◌≡◌, ℕ, suc, ◌<◌, List, [], ◌∷◌, length, refl, ap, sym, ◌∙◌, subst, arith, true, false, Bool, cond, inl, inr, eqb, leb, ltb, ◌+◌, zero}
use Rattle.std.specs.Prelude.{Option, Some, None, is_some, ◌⊎◌, ◌||◌, ◌&&◌, ◌==◌}
use Rattle.std.specs.List.{AllByRecursion, IsDistinct, count_by, filter}
use Rattle.std.specs.Map.{keys_of}
use Rattle.std.specs.BTreeMap.{is_at}
use Rattle.std.specs.BTreeMap.Range.{entries_between, range_contains}
use Rattle.std.proofs.lemmas.List.Sums.{length-filter, sum_by-cons}
use Rattle.std.specs.declared.ops.Bound.TheVariants.{Included, Excluded}
use Rattle.std.specs.Ordering.{nat_cmp, eq_by_cmp}
use Rattle.std.specs.List.Sorted.{IsStrictlySortedBy}
use Rattle.std.proofs.lemmas.Map.Keys.{IsDistinct-from_sorted, IsDistinct-head, IsDistinct-tail}
use Rattle.std.proofs.lemmas.Bool.{cases_Bool, cases_eq, eqb-true}
use Rattle.std.proofs.lemmas.Bool.Decides.{nat_tests}
use Rattle.lba_ranges.specs.HeldBlocks.{AllSized}
use Rattle.lba_ranges.specs.Writings.{Held, Writing, paired, unmapped, after, mapped_below, mapped_among, is_written}
use Rattle.lba_ranges.specs.Denoted.{row}
use Rattle.lba_ranges.proofs.PublicLaws.{one_if, mapped-none, mapped-set}
use Rattle.lun_plain.specs.Plain.{stored}
use Rattle.lun_plain.specs.inner.Plain.{IsPlain, seen, is_among}

-- ---- how many

at_is : (a b : ℕ) → is_at (nat_cmp a) b ≡ eqb b a
at_is a b = grind (arith, nat_tests)

stored-cons : (k : ℕ) (v : List ℕ) (es : List (ℕ × List ℕ)) (b : ℕ) → stored ((k, v) ∷ es) b ≡ cond (eqb k b) (Some v) (stored es b)
stored-cons k v es b = ap (λ t. cond t (Some v) (stored es b)) (at_is b k)

absent : (k : ℕ) (es : List (ℕ × List ℕ)) → AllByRecursion (λ y. eq_by_cmp nat_cmp k y ≡ false) (keys_of es) → stored es k ≡ None
absent k [] all = refl
absent k (e ∷ es) all = let no : is_at (nat_cmp k) e.0 ≡ false = all.0 in rw no (absent k es all.1)

abbrev Below : ℕ → List (ℕ × List ℕ) → Type 0
Below n es = (b : ℕ) (bytes : List ℕ) → stored es b ≡ Some bytes → b < n

below-tail : (n k : ℕ) (v : List ℕ) (es : List (ℕ × List ℕ)) → Below n ((k, v) ∷ es) → Below n es
below-tail n k v es below b bytes e = go (cases_Bool (eqb k b))
  where
    go : (eqb k b ≡ true) ⊎ (eqb k b ≡ false) → b < n
    go (inl same) = below b v (stored-cons k v es b ∙ ap (λ t. cond t (Some v) (stored es b)) same)
    go (inr other) = below b bytes (stored-cons k v es b ∙ ap (λ t. cond t (Some v) (stored es b)) other ∙ e)

count_distinct : (n : ℕ) (es : List (ℕ × List ℕ)) → IsDistinct (eq_by_cmp nat_cmp) (keys_of es) → Below n es → length es ≡ mapped_below n (stored es)
count_distinct n [] d below = sym (mapped-none n (stored []) (λ b. refl))
count_distinct n ((k, v) ∷ es) d below =
    let head = IsDistinct-head (eq_by_cmp nat_cmp) k (keys_of es) d in
    let tail = IsDistinct-tail (eq_by_cmp nat_cmp) k (keys_of es) d in
    let more = count_distinct n es tail (below-tail n k v es below) in
    let own : eqb k k ≡ true = grind (arith, nat_tests) in
    let here : stored ((k, v) ∷ es) k ≡ Some v = stored-cons k v es k ∙ ap (λ t. cond t (Some v) (stored es k)) own in
    let gone : stored es k ≡ None = absent k es head in
    let low : k < n = below k v here in
    let others : (b : ℕ) → (k ≡ b → ⊥) → stored ((k, v) ∷ es) b ≡ stored es b =
    λ b e. stored-cons k v es b ∙ (let no : eqb k b ≡ false = grind (arith, nat_tests) in ap (λ t. cond t (Some v) (stored es b)) no) in
    let step = mapped-set n k (stored es) (stored ((k, v) ∷ es)) low others in
    let was : one_if (is_some (stored es k)) ≡ 0 = ap (λ x. one_if (is_some x)) gone in
    let now : one_if (is_some (stored ((k, v) ∷ es) k)) ≡ 1 = ap (λ x. one_if (is_some x)) here in
    omega arith

-- the entries are as many as the blocks that are mapped
pub count_mapped : (n size : ℕ) (es : List (ℕ × List ℕ)) → IsStrictlySortedBy nat_cmp (keys_of es) → IsPlain n size es → length es ≡ mapped_below n (stored es)
count_mapped n size es ordered is = count_distinct n es (IsDistinct-from_sorted nat_cmp (keys_of es) ordered) is.below

-- ---- how many in a row

abbrev is_in_row : ℕ → ℕ → ℕ → Bool
is_in_row lba n block = leb lba block && ltb block (lba + n)

-- a row has one mapped block more once one of its blocks is mapped
row_set : (lba n k : ℕ) (f g : ℕ → Held) → is_some (f k) ≡ false → is_some (g k) ≡ true → ((b : ℕ) → (k ≡ b → ⊥) → g b ≡ f b)
    → mapped_among g (row lba n) ≡ cond (is_in_row lba n k) 1 0 + mapped_among f (row lba n)
row_set lba zero k f g none some others = let out : is_in_row lba 0 k ≡ false = grind (arith, nat_tests) in rw out refl
row_set lba (suc n) k f g none some others = go (cases_eq k lba) (row_set (suc lba) n k f g none some others)
  where
    go : (k ≡ lba) ⊎ (k ≡ lba → ⊥) → mapped_among g (row (suc lba) n) ≡ cond (is_in_row (suc lba) n k) 1 0 + mapped_among f (row (suc lba) n)
        → mapped_among g (row lba (suc n)) ≡ cond (is_in_row lba (suc n) k) 1 0 + mapped_among f (row lba (suc n))
    go (inl same) ih =
        let here : is_in_row lba (suc n) k ≡ true = grind (arith, nat_tests) in
        let later : is_in_row (suc lba) n k ≡ false = grind (arith, nat_tests) in
        let was : one_if (is_some (f lba)) ≡ 0 = rw (← same, none) refl in
        let now : one_if (is_some (g lba)) ≡ 1 = rw (← same, some) refl in
        let rest = rw later at ih in
        rw here (omega (arith, rest, was, now))
    go (inr other) ih =
        let alike : is_in_row lba (suc n) k ≡ is_in_row (suc lba) n k = grind (arith, nat_tests) in
        rw (alike, others lba other) (omega (arith, ih))

count_row : (lba n : ℕ) (es : List (ℕ × List ℕ)) → IsDistinct (eq_by_cmp nat_cmp) (keys_of es)
    → count_by (λ (e : ℕ × List ℕ). is_in_row lba n e.0) es ≡ mapped_among (stored es) (row lba n)
count_row lba n [] d = sym (among-none lba n)
  where
    among-none : (lba n : ℕ) → mapped_among (stored []) (row lba n) ≡ 0
    among-none lba zero = refl
    among-none lba (suc n) = let rest = among-none (suc lba) n in omega (arith, rest)
count_row lba n ((k, v) ∷ es) d =
    let head = IsDistinct-head (eq_by_cmp nat_cmp) k (keys_of es) d in
    let tail = IsDistinct-tail (eq_by_cmp nat_cmp) k (keys_of es) d in
    let more = count_row lba n es tail in
    let own : eqb k k ≡ true = grind (arith, nat_tests) in
    let here : is_some (stored ((k, v) ∷ es) k) ≡ true = ap is_some (stored-cons k v es k ∙ ap (λ t. cond t (Some v) (stored es k)) own) in
    let gone : is_some (stored es k) ≡ false = ap is_some (absent k es head) in
    let others : (b : ℕ) → (k ≡ b → ⊥) → stored ((k, v) ∷ es) b ≡ stored es b =
    λ b e. stored-cons k v es b ∙ (let no : eqb k b ≡ false = grind (arith, nat_tests) in ap (λ t. cond t (Some v) (stored es b)) no) in
    let step = row_set lba n k (stored es) (stored ((k, v) ∷ es)) gone here others in
    let count = sum_by-cons (λ (e : ℕ × List ℕ). cond (is_in_row lba n e.0) 1 0) (k, v) es in
    omega (arith, step, count, more)

in_range : (lba n k : ℕ) → range_contains nat_cmp (Included lba) (Excluded (lba + n)) k ≡ is_in_row lba n k
in_range lba n k = grind (arith, nat_tests)

same_filter : (p q : ℕ × List ℕ → Bool) → ((e : ℕ × List ℕ) → p e ≡ q e) → (es : List (ℕ × List ℕ)) → filter p es ≡ filter q es
same_filter p q same [] = refl
same_filter p q same (e ∷ es) = rw (same e, same_filter p q same es) refl

-- the entries of a row are as many as its blocks that are mapped
pub count_between : (lba n end : ℕ) (es : List (ℕ × List ℕ)) → end ≡ lba + n → IsStrictlySortedBy nat_cmp (keys_of es)
    → length (entries_between nat_cmp (Included lba) (Excluded end) es) ≡ mapped_among (stored es) (row lba n)
count_between lba n end es e ordered =
    let in_row = same_filter (λ (e : ℕ × List ℕ). range_contains nat_cmp (Included lba) (Excluded (lba + n)) e.0) (λ e. is_in_row lba n e.0) (λ e. in_range lba n e.0) es in
    rw e (ap length in_row ∙ length-filter _ es ∙ count_row lba n es (IsDistinct-from_sorted nat_cmp (keys_of es) ordered))

-- ---- room that was made and is not needed

-- no block that is stored is mere room
pub seen-stored : (n size : ℕ) (es : List (ℕ × List ℕ)) → IsPlain n size es → (b : ℕ) → seen (stored es b) ≡ stored es b
seen-stored n size es is b = go (stored es b) refl
  where
    go : (x : Option (List ℕ)) → stored es b ≡ x → seen x ≡ x
    go None e = refl
    go (Some []) e = let none = is.sized b [] e in absurd (omega (arith, is.some, none))
    go (Some (y ∷ ys)) e = refl

pub undone : (n size : ℕ) (was mid now : List (ℕ × List ℕ)) (blocks : List ℕ) → IsPlain n size was
    → ((b : ℕ) → seen (stored mid b) ≡ seen (stored was b)) → ((b : ℕ) → is_among b blocks ≡ false → stored mid b ≡ stored was b)
    → ((b : ℕ) → stored now b ≡ cond (is_among b blocks) (seen (stored mid b)) (stored mid b)) → (b : ℕ) → stored now b ≡ stored was b
undone n size was mid now blocks is same others dropped b = dropped b ∙ go (is_among b blocks) refl
  where
    go : (t : Bool) → is_among b blocks ≡ t → cond t (seen (stored mid b)) (stored mid b) ≡ stored was b
    go true e = same b ∙ seen-stored n size was is b
    go false e = others b e

pub plain-same : (n size : ℕ) (was now : List (ℕ × List ℕ)) → IsPlain n size was → ((b : ℕ) → stored now b ≡ stored was b) → IsPlain n size now
plain-same n size was now is same = record {
  some = is.some;
  below = λ b bytes e. is.below b bytes (sym (same b) ∙ e);
  sized = λ b bytes e. is.sized b bytes (sym (same b) ∙ e);
}

-- ---- what is put

after-written : (ws : List Writing) (b : ℕ) (x y : Held) → is_written ws b ≡ true → after ws b x ≡ after ws b y
after-written [] b x y e = cc
after-written (w ∷ ws) b x y e = go (w.block == b) e (after-written ws b x y)
  where
    go : (t : Bool) → (t || is_written ws b) ≡ true → (is_written ws b ≡ true → after ws b x ≡ after ws b y) → after ws b (cond t w.held x) ≡ after ws b (cond t w.held y)
    go true f later = refl
    go false f later = later f

written_paired : (bs : List ℕ) (xs : List Held) (b : ℕ) → length bs ≡ length xs → is_among b bs ≡ true → is_written (paired bs xs) b ≡ true
written_paired [] xs b len e = cc
written_paired (a ∷ bs) [] b len e = absurd (omega arith)
written_paired (a ∷ bs) (x ∷ xs) b len e = go (a == b) e (written_paired bs xs b (omega arith))
  where
    go : (t : Bool) → (t || is_among b bs) ≡ true → (is_among b bs ≡ true → is_written (paired bs xs) b ≡ true) → (t || is_written (paired bs xs) b) ≡ true
    go true f later = refl
    go false f later = later f

-- room changes nothing of what the blocks hold after they are written
pub put_over : (bs : List ℕ) (xs : List Held) (was mid now : List (ℕ × List ℕ)) → length bs ≡ length xs
    → ((b : ℕ) → is_among b bs ≡ false → stored mid b ≡ stored was b)
    → ((b : ℕ) → stored now b ≡ after (paired bs xs) b (stored mid b)) → (b : ℕ) → stored now b ≡ after (paired bs xs) b (stored was b)
put_over bs xs was mid now len others put b = put b ∙ go (is_among b bs) refl
  where
    go : (t : Bool) → is_among b bs ≡ t → after (paired bs xs) b (stored mid b) ≡ after (paired bs xs) b (stored was b)
    go true e = after-written (paired bs xs) b (stored mid b) (stored was b) (written_paired bs xs b len e)
    go false e = ap (after (paired bs xs) b) (others b e)

-- a block of the unit, of the right length
record Fits (n size block : ℕ) (held : Held) : Type 0 where
  below : (bytes : List ℕ) → held ≡ Some bytes → block < n
  sized : (bytes : List ℕ) → held ≡ Some bytes → length bytes ≡ size

fits-after : (n size : ℕ) (ws : List Writing) (b : ℕ) (was : Held) → AllByRecursion (λ (w : Writing). Fits n size w.block w.held) ws → Fits n size b was → Fits n size b (after ws b was)
fits-after n size [] b was all before = before
fits-after n size (w ∷ ws) b was all before = fits-after n size ws b (cond (w.block == b) w.held was) all.1 (chosen (w.block == b) refl)
  where
    chosen : (t : Bool) → (w.block == b) ≡ t → Fits n size b (cond t w.held was)
    chosen true e = subst (λ k. Fits n size k w.held) (eqb-true w.block b e) all.0
    chosen false e = before

fits-paired : (n size : ℕ) (bs : List ℕ) (xs : List Held) → AllByRecursion (λ b. b < n) bs → AllSized size xs → AllByRecursion (λ (w : Writing). Fits n size w.block w.held) (paired bs xs)
fits-paired n size [] xs low sized = tt
fits-paired n size (b ∷ bs) [] low sized = tt
fits-paired n size (b ∷ bs) (x ∷ xs) low sized = (record { below = λ bytes e. low.0; sized = λ bytes e. sized 0 bytes e }, fits-paired n size bs xs low.1 (λ i bytes e. sized (suc i) bytes e))

fits-unmapped : (n size : ℕ) (bs : List ℕ) → AllByRecursion (λ (w : Writing). Fits n size w.block w.held) (unmapped bs)
fits-unmapped n size [] = tt
fits-unmapped n size (b ∷ bs) = (record { below = λ bytes e. cc; sized = λ bytes e. cc }, fits-unmapped n size bs)

plain-after : (n size : ℕ) (ws : List Writing) (was now : List (ℕ × List ℕ)) → AllByRecursion (λ (w : Writing). Fits n size w.block w.held) ws
    → IsPlain n size was → ((b : ℕ) → stored now b ≡ after ws b (stored was b)) → IsPlain n size now
plain-after n size ws was now all is put = record {
  some = is.some;
  below = λ b bytes e. (fits b).below bytes (sym (put b) ∙ e);
  sized = λ b bytes e. (fits b).sized bytes (sym (put b) ∙ e);
}
  where
    fits : (b : ℕ) → Fits n size b (after ws b (stored was b))
    fits b = fits-after n size ws b (stored was b) all (record { below = is.below b; sized = is.sized b })

pub plain-put : (n size : ℕ) (bs : List ℕ) (xs : List Held) (was now : List (ℕ × List ℕ)) → AllByRecursion (λ b. b < n) bs → AllSized size xs
    → IsPlain n size was → ((b : ℕ) → stored now b ≡ after (paired bs xs) b (stored was b)) → IsPlain n size now
plain-put n size bs xs was now low sized is put = plain-after n size (paired bs xs) was now (fits-paired n size bs xs low sized) is put

pub plain-clear : (n size : ℕ) (bs : List ℕ) (was now : List (ℕ × List ℕ)) → IsPlain n size was
    → ((b : ℕ) → stored now b ≡ after (unmapped bs) b (stored was b)) → IsPlain n size now
plain-clear n size bs was now is put = plain-after n size (unmapped bs) was now (fits-unmapped n size bs) is put
