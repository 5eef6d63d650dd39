-- How writings change what is held, and how many blocks are mapped
use Rattle.std.proofs.Common.{◌≡◌, ℕ, zero, suc, ◌+◌, ◌<◌, ◌≤◌, List, [], ◌∷◌, ◌++◌, length, take, get_or, length-take-le, refl, ap, sym, ◌∙◌, arith, true, false, Bool, inl, inr}
use Rattle.std.specs.Prelude.{is_some, None, ◌⊎◌, ◌==◌, ◌&&◌, nat_le, nat_lt, if◌then◌else◌, replicate}
use Rattle.std.specs.List.{list_any, AllByRecursion, count_by}
use Rattle.std.proofs.lemmas.Bool.{cases_eq, or_parts, ne_eqb}
use Rattle.std.proofs.lemmas.List.{take_more, length-replicate}
use Rattle.std.proofs.lemmas.List.Sums.{sum_by-cons}
use Rattle.std.proofs.lemmas.Bool.Decides.{nat_tests}
use Rattle.lba_ranges.proofs.Cells.{count-holes}
use Rattle.lba_ranges.specs.Denoted.{row, has_repeat}
use Rattle.lba_ranges.specs.Writings.{Held, Writing, paired, unmapped, after, is_written, mapped_below, mapped_among}

-- 1 for a mapped block
abbrev pub one_if : Bool → ℕ
one_if b = if b then 1 else 0

pub after-append : (xs ys : List Writing) (b : ℕ) (was : Held) → after (xs ++ ys) b was ≡ after ys b (after xs b was)
after-append [] ys b was = refl
after-append (x ∷ xs) ys b was = after-append xs ys b (if x.block == b then x.held else was)

pub after-unwritten : (ws : List Writing) (b : ℕ) (was : Held) → is_written ws b ≡ false → after ws b was ≡ was
after-unwritten [] b was e = refl
after-unwritten (w ∷ ws) b was e =
    let both = or_parts (w.block == b) (is_written ws b) e in
    let first : w.block == b ≡ false = both.0 in
    let kept : (if w.block == b then w.held else was) ≡ was = rw first refl in
    ap (after ws b) kept ∙ after-unwritten ws b was both.1

pub unmapped-append : (xs ys : List ℕ) → unmapped (xs ++ ys) ≡ unmapped xs ++ unmapped ys
unmapped-append [] ys = refl
unmapped-append (x ∷ xs) ys = rw (unmapped-append xs ys) refl

-- a row that is unmapped
pub after-unmapped_row : (lba n b : ℕ) (was : Held) → after (unmapped (row lba n)) b was ≡ (if nat_le lba b && nat_lt b (lba + n) then None else was)
after-unmapped_row lba zero b was = let out : (nat_le lba b && nat_lt b (lba + 0)) ≡ false = grind (arith, nat_tests) in rw out refl
after-unmapped_row lba (suc n) b was = after-unmapped_row (suc lba) n b (if lba == b then None else was) ∙ go (cases_eq lba b)
  where
    go : (lba ≡ b) ⊎ (lba ≡ b → ⊥)
        → (if nat_le (suc lba) b && nat_lt b (suc lba + n) then None else (if lba == b then None else was)) ≡ (if nat_le lba b && nat_lt b (lba + suc n) then None else was)
    go (inl same) =
        let later : (nat_le (suc lba) b && nat_lt b (suc lba + n)) ≡ false = grind (arith, nat_tests) in
        let here : (nat_le lba b && nat_lt b (lba + suc n)) ≡ true = grind (arith, nat_tests) in
        let it : (lba == b) ≡ true = grind (arith, nat_tests) in
        rw (later, here, it) refl
    go (inr other) =
        let alike : (nat_le (suc lba) b && nat_lt b (suc lba + n)) ≡ (nat_le lba b && nat_lt b (lba + suc n)) = grind (arith, nat_tests) in
        let it : (lba == b) ≡ false = grind (arith, nat_tests) in
        rw (alike, it) refl

-- the count looks at the blocks below alone
pub mapped-same : (n : ℕ) (f g : ℕ → Held) → ((b : ℕ) → b < n → f b ≡ g b) → mapped_below n f ≡ mapped_below n g
mapped-same zero f g h = refl
mapped-same (suc n) f g h = rw (mapped-same n f g (λ b k. h b (omega arith)), h n (omega arith)) refl

pub mapped-none : (n : ℕ) (f : ℕ → Held) → ((b : ℕ) → f b ≡ None) → mapped_below n f ≡ 0
mapped-none zero f h = refl
mapped-none (suc n) f h = rw (mapped-none n f h, h n) refl

pub mapped-le : (n : ℕ) (f : ℕ → Held) → mapped_below n f ≤ n
mapped-le zero f = omega arith
mapped-le (suc n) f = go (is_some (f n)) (mapped-le n f)
  where
    go : (b : Bool) → mapped_below n f ≤ n → mapped_below n f + (if b then 1 else 0) ≤ suc n
    go true h = omega arith
    go false h = omega arith

-- one block changes
pub mapped-set : (n i : ℕ) (f g : ℕ → Held) → i < n → ((b : ℕ) → (i ≡ b → ⊥) → g b ≡ f b)
    → mapped_below n g + one_if (is_some (f i)) ≡ mapped_below n f + one_if (is_some (g i))
mapped-set zero i f g h others = absurd (omega arith)
mapped-set (suc n) i f g h others = go (λ below. mapped-set n i f g below others) (cases_eq i n)
  where
    go : (i < n → mapped_below n g + one_if (is_some (f i)) ≡ mapped_below n f + one_if (is_some (g i))) → (i ≡ n) ⊎ (i ≡ n → ⊥)
        → mapped_below (suc n) g + one_if (is_some (f i)) ≡ mapped_below (suc n) f + one_if (is_some (g i))
    go ih (inl same) =
        let below : mapped_below n g ≡ mapped_below n f = mapped-same n g f (λ b k. others b (λ e. absurd (omega arith))) in
        rw (same, below) (omega arith)
    go ih (inr other) =
        let here : g n ≡ f n = others n other in
        let below = ih (omega arith) in
        rw here (omega arith)

-- a block that is not in the list is not counted with it
among-others : (f g : ℕ → Held) (bs : List ℕ) (b : ℕ) → list_any (λ a. a == b) bs ≡ false → ((a : ℕ) → (b ≡ a → ⊥) → g a ≡ f a)
    → mapped_among g bs ≡ mapped_among f bs
among-others f g [] b e others = refl
among-others f g (a ∷ bs) b e others =
    let both = or_parts (a == b) (list_any (λ c. c == b) bs) e in
    let differs : b ≡ a → ⊥ = λ same. (let test : (a == b) ≡ true = grind (arith, nat_tests) in let no = sym both.0 ∙ test in cc) in
    rw (others a differs, among-others f g bs b both.1 others) refl

-- a list that is put to blocks: its mapped items count in place of what they held
pub mapped-put : (n : ℕ) (now : ℕ → Held) (bs : List ℕ) (xs : List Held) → length bs ≡ length xs → has_repeat bs ≡ false → AllByRecursion (λ b. b < n) bs
    → mapped_below n (λ b. after (paired bs xs) b (now b)) + mapped_among now bs ≡ mapped_below n now + count_by is_some xs
mapped-put n now [] [] len apart below = refl
mapped-put n now [] (x ∷ xs) len apart below = absurd (omega arith)
mapped-put n now (b ∷ bs) [] len apart below = absurd (omega arith)
mapped-put n now (b ∷ bs) (x ∷ xs) len apart below =
    let both = or_parts (list_any (λ a. a == b) bs) (has_repeat bs) apart in
    let next : ℕ → Held = λ a. if b == a then x else now a in
    let others : (a : ℕ) → (b ≡ a → ⊥) → next a ≡ now a = λ a e. (let differs : (b == a) ≡ false = grind (arith, nat_tests) in rw differs refl) in
    let test : (b == b) ≡ true = grind (arith, nat_tests) in
    let here : next b ≡ x = rw test refl in
    let rest = mapped-put n next bs xs (omega arith) both.1 below.1 in
    let among = among-others now next bs b both.0 others in
    let moved = mapped-set n b now next below.0 others in
    let step : mapped_below n next + one_if (is_some (now b)) ≡ mapped_below n now + one_if (is_some x) = moved ∙ ap (λ (held : Held). mapped_below n now + one_if (is_some held)) here in
    let count = sum_by-cons (λ (held : Held). one_if (is_some held)) x xs in
    omega (arith, rest, among, step, count)

-- no more blocks of a list are mapped than of all
pub among-le : (n : ℕ) (now : ℕ → Held) (bs : List ℕ) → has_repeat bs ≡ false → AllByRecursion (λ b. b < n) bs → mapped_among now bs ≤ mapped_below n now
among-le n now bs apart below =
    let put = mapped-put n now bs (replicate (length bs) None) (sym (length-replicate (length bs) None)) apart below in
    omega (arith, put, count-holes (length bs))

pub among-append : (held : ℕ → Held) (xs ys : List ℕ) → mapped_among held (xs ++ ys) ≡ mapped_among held xs + mapped_among held ys
among-append held [] ys = omega arith
among-append held (x ∷ xs) ys = let rest = among-append held xs ys in omega (arith, rest)

-- one more block and its item
pub paired-push : (bs : List ℕ) (xs : List Held) (b : ℕ) (x : Held) → length bs ≡ length xs
    → paired (bs ++ b ∷ []) (xs ++ x ∷ []) ≡ paired bs xs ++ record { block = b; held = x } ∷ []
paired-push [] [] b x e = refl
paired-push [] (y ∷ xs) b x e = absurd (omega arith)
paired-push (a ∷ bs) [] b x e = absurd (omega arith)
paired-push (a ∷ bs) (y ∷ xs) b x e = ap (λ l. record { block = a; held = y } ∷ l) (paired-push bs xs b x (omega arith))

-- a block that is not among those of the ranges is not written
pub paired-unwritten : (bs : List ℕ) (xs : List Held) (b : ℕ) → list_any (λ a. a == b) bs ≡ false → is_written (paired bs xs) b ≡ false
paired-unwritten [] xs b e = refl
paired-unwritten (a ∷ bs) [] b e = refl
paired-unwritten (a ∷ bs) (x ∷ xs) b e =
    let both = or_parts (a == b) (list_any (λ c. c == b) bs) e in
    let first : a == b ≡ false = both.0 in
    rw first (paired-unwritten bs xs b both.1)

-- a number that is not in the list is none of its elements
pub differs-at : (xs : List ℕ) (b j : ℕ) → list_any (λ a. a == b) xs ≡ false → j < length xs → get_or xs j 0 ≡ b → ⊥
differs-at [] b j e h same = absurd (omega arith)
differs-at (x ∷ xs) b zero e h same =
    let no : (x == b) ≡ false = (or_parts (x == b) (list_any (λ a. a == b) xs) e).0 in
    let differs : x ≡ b → ⊥ = grind (arith, nat_tests) in
    differs same
differs-at (x ∷ xs) b (suc j) e h same = differs-at xs b j (or_parts (x == b) (list_any (λ a. a == b) xs) e).1 (omega arith) same

-- the number at a place is none of those before it
pub fresh-at : (xs : List ℕ) (k : ℕ) → has_repeat xs ≡ false → k < length xs → list_any (λ a. a == get_or xs k 0) (take k xs) ≡ false
fresh-at [] k e h = absurd (omega arith)
fresh-at (x ∷ xs) zero e h = refl
fresh-at (x ∷ xs) (suc k) e h =
    let both = or_parts (list_any (λ a. a == x) xs) (has_repeat xs) e in
    let first : (x == get_or xs k 0) ≡ false = ne_eqb x (get_or xs k 0) (λ same. differs-at xs x k both.0 (omega arith) (sym same)) in
    rw first (fresh-at xs k both.1 (omega arith))

-- what the block at a place holds is not changed by those before it
pub after-before : (bs : List ℕ) (xs : List Held) (k : ℕ) (was : Held) → has_repeat bs ≡ false → k < length bs
    → after (paired (take k bs) xs) (get_or bs k 0) was ≡ was
after-before bs xs k was e h = after-unwritten (paired (take k bs) xs) (get_or bs k 0) was (paired-unwritten (take k bs) xs (get_or bs k 0) (fresh-at bs k e h))

-- one more item
pub after-more : (bs : List ℕ) (xs : List Held) (k : ℕ) (x : Held) (b : ℕ) (was : Held) → length xs ≡ k → k < length bs
    → after (paired (take (k + 1) bs) (xs ++ x ∷ [])) b was ≡ (if get_or bs k 0 == b then x else after (paired (take k bs) xs) b was)
after-more bs xs k x b was len h =
    let front : length (take k bs) ≡ length xs = length-take-le k bs (omega arith) ∙ sym len in
    ap (λ l. after (paired l (xs ++ x ∷ [])) b was) (take_more bs k 0 h)
    ∙ ap (λ ws. after ws b was) (paired-push (take k bs) xs (get_or bs k 0) x front)
    ∙ after-append (paired (take k bs) xs) (record { block = get_or bs k 0; held = x } ∷ []) b was

-- fewer mapped blocks
pub mapped-fewer : (n : ℕ) (f g : ℕ → Held) → ((b : ℕ) → is_some (g b) ≡ true → is_some (f b) ≡ true) → mapped_below n g ≤ mapped_below n f
mapped-fewer zero f g h = omega arith
mapped-fewer (suc n) f g h = go (is_some (g n)) (is_some (f n)) refl refl (mapped-fewer n f g h)
  where
    go : (t u : Bool) → is_some (g n) ≡ t → is_some (f n) ≡ u → mapped_below n g ≤ mapped_below n f
        → mapped_below n g + (if t then 1 else 0) ≤ mapped_below n f + (if u then 1 else 0)
    go true true e k ih = omega arith
    go true false e k ih = let no' = sym k ∙ h n e in cc
    go false u e k ih = omega arith

-- what is left mapped was mapped
pub mapped-left : (bs : List ℕ) (b : ℕ) (was : Held) → is_some (after (unmapped bs) b was) ≡ true → is_some was ≡ true
mapped-left [] b was e = e
mapped-left (a ∷ bs) b was e = go (a == b) (mapped-left bs b (if a == b then None else was) e)
  where
    go : (t : Bool) → is_some (if t then None else was) ≡ true → is_some was ≡ true
    go true f = cc
    go false f = f
