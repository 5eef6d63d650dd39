-- What pairs of blocks and items give to blocks
use Rattle.std.proofs.Common.{◌≡◌, ℕ, List, [], ◌∷◌, ◌++◌, length, refl, ap, sym, ◌∙◌, arith, true, false, Bool, inl, inr}
use Rattle.std.specs.Prelude.{None, ◌==◌, ◌||◌, cond, map}
use Rattle.std.specs.List.{list_any}
use Rattle.std.proofs.lemmas.Bool.{or_parts, eqb-true, eq-eqb}
use Rattle.std.proofs.lemmas.Bool.Decides.{nat_tests}
use Rattle.lba_ranges.specs.Denoted.{has_repeat}
use Rattle.lba_ranges.specs.Writings.{Held, Writing, paired, after, is_written}
use Rattle.lba_ranges.proofs.PublicLaws.{after-unwritten}
use Rattle.cm_history.proofs.PublicLaws.{In, Each, map-same, any-none}

-- what the writings leave in a block
abbrev pub given : List Writing → ℕ → Held
given ws b = after ws b None

block-in : (bs : List ℕ) (xs : List Held) (w : Writing) → In w (paired bs xs) → In w.block bs
block-in [] xs w i = absurd i
block-in (b ∷ bs) [] w i = absurd i
block-in (b ∷ bs) (x ∷ xs) w (inl e) = inl (ap (λ (y : Writing). y.block) e)
block-in (b ∷ bs) (x ∷ xs) w (inr i) = inr (block-in bs xs w i)

-- a block that is not among them is given nothing
paired-unwritten : (bs : List ℕ) (xs : List Held) (b : ℕ) → list_any (λ a. a == b) bs ≡ false → is_written (paired bs xs) b ≡ false
paired-unwritten [] xs b e = refl
paired-unwritten (a ∷ bs) [] b e = refl
paired-unwritten (a ∷ bs) (x ∷ xs) b e =
    let both = or_parts (a == b) (list_any (λ c. c == b) bs) e in
    let first : a == b ≡ false = both.0 in
    rw first (paired-unwritten bs xs b both.1)

other-test : (b c : ℕ) → (c == b) ≡ false → (b == c) ≡ false
other-test b c e = grind (arith, nat_tests)

-- the first pair gives its item to its own block alone
given-first : (b : ℕ) (x : Held) (bs : List ℕ) (xs : List Held) → list_any (λ a. a == b) bs ≡ false → given (record { block = b; held = x } ∷ paired bs xs) b ≡ x
given-first b x bs xs apart =
    ap (λ t. after (paired bs xs) b (cond t x None)) (eq-eqb b b refl) ∙ after-unwritten (paired bs xs) b x (paired-unwritten bs xs b apart)

given-later : (b : ℕ) (x : Held) (bs : List ℕ) (xs : List Held) (c : ℕ) → list_any (λ a. a == b) bs ≡ false → In c bs
    → given (record { block = b; held = x } ∷ paired bs xs) c ≡ given (paired bs xs) c
given-later b x bs xs c apart i = ap (λ t. after (paired bs xs) c (cond t x None)) (other-test b c (any-none (λ a. a == b) bs c apart i))

-- each pair gives its item
pub own-given : (bs : List ℕ) (xs : List Held) (w : Writing) → has_repeat bs ≡ false → In w (paired bs xs) → w.held ≡ given (paired bs xs) w.block
own-given [] xs w apart i = absurd i
own-given (b ∷ bs) [] w apart i = absurd i
own-given (b ∷ bs) (x ∷ xs) w apart (inl e) =
    let both = or_parts (list_any (λ a. a == b) bs) (has_repeat bs) apart in
    sym (ap (λ (y : Writing). y.held) e) ∙ sym (given-first b x bs xs both.0)
    ∙ ap (given (record { block = b; held = x } ∷ paired bs xs)) (ap (λ (y : Writing). y.block) e)
own-given (b ∷ bs) (x ∷ xs) w apart (inr i) =
    let both = or_parts (list_any (λ a. a == b) bs) (has_repeat bs) apart in
    own-given bs xs w both.1 i ∙ sym (given-later b x bs xs w.block both.0 (block-in bs xs w i))

-- the items that the blocks are given, in order
pub map-given : (bs : List ℕ) (xs : List Held) → has_repeat bs ≡ false → length bs ≡ length xs → map (given (paired bs xs)) bs ≡ xs
map-given [] [] apart n = refl
map-given [] (x ∷ xs) apart n = absurd (omega arith)
map-given (b ∷ bs) [] apart n = absurd (omega arith)
map-given (b ∷ bs) (x ∷ xs) apart n =
    let both = or_parts (list_any (λ a. a == b) bs) (has_repeat bs) apart in
    ap (λ y. y ∷ map (given (record { block = b; held = x } ∷ paired bs xs)) bs) (given-first b x bs xs both.0)
    ∙ ap (λ l. x ∷ l) (map-same (given (record { block = b; held = x } ∷ paired bs xs)) (given (paired bs xs)) bs (λ c i. given-later b x bs xs c both.0 i)
    ∙ map-given bs xs both.1 (omega arith))

-- writings that give each block what `L` says
pub all-given : (L : ℕ → Held) (ws : List Writing) (b : ℕ) (was : Held) → Each (λ (w : Writing). w.held ≡ L w.block) ws → is_written ws b ≡ true → after ws b was ≡ L b
all-given L [] b was all e = cc
all-given L (w ∷ ws) b was all e = go (is_written ws b) refl (λ now k. all-given L ws b now all.1 k)
  where
    go : (t : Bool) → is_written ws b ≡ t → ((now : Held) → is_written ws b ≡ true → after ws b now ≡ L b) → after ws b (cond (w.block == b) w.held was) ≡ L b
    go true is later = later (cond (w.block == b) w.held was) is
    go false is later =
        let here : (w.block == b) ≡ true = first (w.block == b) (is_written ws b) e is in
        after-unwritten ws b (cond (w.block == b) w.held was) is ∙ ap (λ t. cond t w.held was) here ∙ all.0 ∙ ap L (eqb-true w.block b here)
      where
        first : (x y : Bool) → (x || y) ≡ true → y ≡ false → x ≡ true
        first true y h k = refl
        first false y h k = cc

pub written-in : (ws : List Writing) (w : Writing) → In w ws → is_written ws w.block ≡ true
written-in [] w i = absurd i
written-in (x ∷ ws) w (inl e) = ap (λ (y : Writing). y.block == w.block || is_written ws w.block) e ∙ ap (λ t. t || is_written ws w.block) (eq-eqb w.block w.block refl)
written-in (x ∷ ws) w (inr i) = ap (λ t. x.block == w.block || t) (written-in ws w i) ∙ or-true (x.block == w.block)
  where
    or-true : (b : Bool) → (b || true) ≡ true
    or-true true = refl
    or-true false = refl

-- each block that has an item is written
pub paired-written : (bs : List ℕ) (xs : List Held) (b : ℕ) → length bs ≡ length xs → In b bs → is_written (paired bs xs) b ≡ true
paired-written [] xs b n i = absurd i
paired-written (c ∷ bs) [] b n i = absurd (omega arith)
paired-written (c ∷ bs) (x ∷ xs) b n (inl e) = ap (λ t. t || is_written (paired bs xs) b) (eq-eqb c b e)
paired-written (c ∷ bs) (x ∷ xs) b n (inr i) = ap (λ t. c == b || t) (paired-written bs xs b (omega arith) i) ∙ or-true (c == b)
  where
    or-true : (t : Bool) → (t || true) ≡ true
    or-true true = refl
    or-true false = refl

pub written-append : (xs ys : List Writing) (b : ℕ) → is_written (xs ++ ys) b ≡ (is_written xs b || is_written ys b)
written-append [] ys b = refl
written-append (x ∷ xs) ys b = ap (λ t. x.block == b || t) (written-append xs ys b) ∙ or-assoc (x.block == b) (is_written xs b) (is_written ys b)
  where
    or-assoc : (a c d : Bool) → (a || (c || d)) ≡ ((a || c) || d)
    or-assoc true c d = refl
    or-assoc false c d = refl
