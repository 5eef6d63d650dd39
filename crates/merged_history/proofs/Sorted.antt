-- Entries in order of their stamps and units
use Rattle.std.proofs.Common.{◌<◌, ◌≤◌, ◌≡◌, ℕ, List, [], ◌∷◌, refl, sym, ◌∙◌, subst, arith, true, false, Bool, inl, inr}
use Rattle.std.specs.Prelude.{◌⊎◌, ◌==◌, ◌&&◌, ◌||◌, nat_lt, nat_le, IsTrue, filter, fold, cond, ⊤, if◌then◌else◌}
use Rattle.std.proofs.lemmas.Bool.{cases_lt}
use Rattle.std.proofs.lemmas.Bool.Decides.{nat_tests}
use Rattle.cm_history.specs.declared.act.Entry.{Entry}
use Rattle.cm_history.proofs.PublicLaws.{Each-in, Each-by, In-filter, In, Each}
use Rattle.merged_history.proofs.Members.{Pairs, Pairs-all}
use Rattle.merged_history.specs.Merged.{IsSorted, is_earlier, put_in_order, all_of, merged}

-- by stamp, and at one stamp by unit
abbrev pub Before : Entry → Entry → Type 0
Before a b = (a.stamp < b.stamp) ⊎ ((a.stamp ≡ b.stamp) × (a.unit < b.unit))

-- not of one stamp and one unit
abbrev pub Differs : Entry → Entry → Type 0
Differs a b = a.stamp ≡ b.stamp → a.unit ≡ b.unit → ⊥

-- each entry is before all later ones
abbrev pub Sorted : List Entry → Type 0
Sorted [] = ⊤
Sorted (x ∷ xs) = Each (Before x) xs × Sorted xs

-- no two entries have one stamp and one unit
abbrev pub Apart : List Entry → Type 0
Apart [] = ⊤
Apart (x ∷ xs) = Each (Differs x) xs × Apart xs

pub before-not : (a b : Entry) → Before a b → Before b a → ⊥
before-not a b (inl l) (inl m) = absurd (omega arith)
before-not a b (inl l) (inr m) = absurd (omega arith)
before-not a b (inr l) (inl m) = absurd (omega arith)
before-not a b (inr l) (inr m) = absurd (omega arith)

pub before-later : (a b c : Entry) → Before a b → Before b c → Before a c
before-later a b c (inl l) (inl m) = inl (omega arith)
before-later a b c (inl l) (inr m) = inl (omega arith)
before-later a b c (inr l) (inl m) = inl (omega arith)
before-later a b c (inr l) (inr m) = inr (omega arith, omega arith)

test-earlier : (s t u v : ℕ) → (nat_lt s t || ((s == t) && nat_le u v)) ≡ true → (s < t) ⊎ ((s ≡ t) × (u ≤ v))
test-earlier s t u v h = go (cases_lt s t)
  where
    here : t ≤ s → (s ≡ t) × (u ≤ v)
    here le = (grind (arith, nat_tests), grind (arith, nat_tests))

    go : (s < t) ⊎ (t ≤ s) → (s < t) ⊎ ((s ≡ t) × (u ≤ v))
    go (inl less) = inl less
    go (inr le) = inr (here le)

test-later : (s t u v : ℕ) → (nat_lt s t || ((s == t) && nat_le u v)) ≡ false → (t < s) ⊎ ((t ≡ s) × (v < u))
test-later s t u v h = go (cases_lt t s)
  where
    here : s ≤ t → (t ≡ s) × (v < u)
    here le = (grind (arith, nat_tests), grind (arith, nat_tests))

    go : (t < s) ⊎ (s ≤ t) → (t < s) ⊎ ((t ≡ s) × (v < u))
    go (inl less) = inl less
    go (inr le) = inr (here le)

pub earlier-before : (a b : Entry) → Differs a b → is_earlier a b ≡ true → Before a b
earlier-before a b differs h = go (test-earlier a.stamp b.stamp a.unit b.unit h)
  where
    go : (a.stamp < b.stamp) ⊎ ((a.stamp ≡ b.stamp) × (a.unit ≤ b.unit)) → Before a b
    go (inl less) = inl less
    go (inr same) = let apart : (a.unit ≡ b.unit) → ⊥ = λ e. differs same.0 e in inr (same.0, omega (arith, same.1, apart))

earlier-of : (s t u v : ℕ) → (s < t) ⊎ ((s ≡ t) × (u < v)) → (nat_lt s t || ((s == t) && nat_le u v)) ≡ true
earlier-of s t u v (inl less) = grind (arith, nat_tests)
earlier-of s t u v (inr same) = let at = same.0 in let less = same.1 in grind (arith, nat_tests, at, less)

before-earlier : (a b : Entry) → Before a b → is_earlier a b ≡ true
before-earlier a b before = earlier-of a.stamp b.stamp a.unit b.unit before

later-before : (a b : Entry) → is_earlier a b ≡ false → Before b a
later-before a b h = test-later a.stamp b.stamp a.unit b.unit h

-- each two entries of it are in order
pub sorted-pairs : (xs : List Entry) → Sorted xs → IsSorted xs
sorted-pairs xs s = Pairs-all (λ (a b : Entry). IsTrue (is_earlier a b)) xs (go xs s)
  where
    go : (ys : List Entry) → Sorted ys → Pairs (λ (a b : Entry). IsTrue (is_earlier a b)) ys
    go [] s = tt
    go (y ∷ ys) s = (Each-by (λ (b : Entry). IsTrue (is_earlier y b)) ys (λ e i. before-earlier y e (Each-in (Before y) ys e s.0 i)), go ys s.1)

-- what a list in order has besides a new entry
pub put-in : (e : Entry) (xs : List Entry) (y : Entry) → In y (put_in_order xs e) → (e ≡ y) ⊎ In y xs
put-in e [] y i = i
put-in e (x ∷ xs) y i = go (is_earlier e x) i (λ j. put-in e xs y j)
  where
    go : (t : Bool) → In y (if t then e ∷ x ∷ xs else x ∷ put_in_order xs e) → (In y (put_in_order xs e) → (e ≡ y) ⊎ In y xs) → (e ≡ y) ⊎ In y (x ∷ xs)
    go true (inl same) ih = inl same
    go true (inr j) ih = inr j
    go false (inl same) ih = inr (inl same)
    go false (inr j) ih = more (ih j)
      where
        more : (e ≡ y) ⊎ In y xs → (e ≡ y) ⊎ In y (x ∷ xs)
        more (inl same) = inl same
        more (inr k) = inr (inr k)

pub in-put : (e : Entry) (xs : List Entry) (y : Entry) → (e ≡ y) ⊎ In y xs → In y (put_in_order xs e)
in-put e [] y i = i
in-put e (x ∷ xs) y i = go (is_earlier e x) i (λ j. in-put e xs y j)
  where
    go : (t : Bool) → (e ≡ y) ⊎ In y (x ∷ xs) → ((e ≡ y) ⊎ In y xs → In y (put_in_order xs e)) → In y (if t then e ∷ x ∷ xs else x ∷ put_in_order xs e)
    go true j ih = j
    go false (inl same) ih = inr (ih (inl same))
    go false (inr (inl same)) ih = inl same
    go false (inr (inr j)) ih = inr (ih (inr j))

-- an entry that differs from all is put in order
put-sorted : (e : Entry) (xs : List Entry) → Sorted xs → Each (Differs e) xs → Sorted (put_in_order xs e)
put-sorted e [] s d = (tt, tt)
put-sorted e (x ∷ xs) s d = go (is_earlier e x) refl (put-sorted e xs s.1 d.1)
  where
    go : (t : Bool) → is_earlier e x ≡ t → Sorted (put_in_order xs e) → Sorted (if t then e ∷ x ∷ xs else x ∷ put_in_order xs e)
    go true is ih =
        let first : Before e x = earlier-before e x d.0 is in
        ((first, Each-by (Before e) xs (λ y i. before-later e x y first (Each-in (Before x) xs y s.0 i))), s)
    go false is ih =
        let first : Before x e = later-before e x is in
        (Each-by (Before x) (put_in_order xs e) (λ y i. rest y (put-in e xs y i) first), ih)
      where
        rest : (y : Entry) → (e ≡ y) ⊎ In y xs → Before x e → Before x y
        rest y (inl same) first = subst (Before x) same first
        rest y (inr i) first = Each-in (Before x) xs y s.0 i

-- ---- all entries of some lists, put in order

pub fold-in : (rest acc : List Entry) (y : Entry) → In y (fold put_in_order acc rest) → In y acc ⊎ In y rest
fold-in [] acc y i = inl i
fold-in (e ∷ es) acc y i = go (fold-in es (put_in_order acc e) y i)
  where
    next : (e ≡ y) ⊎ In y acc → In y acc ⊎ In y (e ∷ es)
    next (inl same) = inr (inl same)
    next (inr j) = inl j

    go : In y (put_in_order acc e) ⊎ In y es → In y acc ⊎ In y (e ∷ es)
    go (inl j) = next (put-in e acc y j)
    go (inr j) = inr (inr j)

pub in-fold : (rest acc : List Entry) (y : Entry) → In y acc ⊎ In y rest → In y (fold put_in_order acc rest)
in-fold [] acc y (inl i) = i
in-fold [] acc y (inr i) = absurd i
in-fold (e ∷ es) acc y (inl i) = in-fold es (put_in_order acc e) y (inl (in-put e acc y (inr i)))
in-fold (e ∷ es) acc y (inr (inl same)) = in-fold es (put_in_order acc e) y (inl (in-put e acc y (inl same)))
in-fold (e ∷ es) acc y (inr (inr j)) = in-fold es (put_in_order acc e) y (inr j)

differs-turned : (a b : Entry) → Differs a b → Differs b a
differs-turned a b d = λ s u. d (sym s) (sym u)

fold-sorted : (rest acc : List Entry) → Sorted acc → Apart rest → Each (λ (e : Entry). Each (Differs e) acc) rest → Sorted (fold put_in_order acc rest)
fold-sorted [] acc s a d = s
fold-sorted (e ∷ es) acc s a d =
    fold-sorted es (put_in_order acc e) (put-sorted e acc s d.0) a.1
    (Each-by _ es (λ f i. Each-by (Differs f) (put_in_order acc e) (λ y j. go f i y (put-in e acc y j))))
  where
    go : (f : Entry) → In f es → (y : Entry) → (e ≡ y) ⊎ In y acc → Differs f y
    go f i y (inl same) = subst (Differs f) same (differs-turned e f (Each-in (Differs e) es f a.0 i))
    go f i y (inr j) = Each-in (Differs f) acc y (Each-in (λ (g : Entry). Each (Differs g) acc) es f d.1 i) j

-- entries that differ are merged in order
pub merged-sorted : (histories : List (List Entry)) → Apart (all_of histories) → Sorted (merged histories)
merged-sorted histories a = fold-sorted (all_of histories) [] tt a (Each-by _ (all_of histories) (λ e i. tt))

pub merged-in : (histories : List (List Entry)) (y : Entry) → In y (merged histories) → In y (all_of histories)
merged-in histories y i = go (fold-in (all_of histories) [] y i)
  where
    go : In y [] ⊎ In y (all_of histories) → In y (all_of histories)
    go (inl j) = absurd j
    go (inr j) = j

pub in-merged : (histories : List (List Entry)) (y : Entry) → In y (all_of histories) → In y (merged histories)
in-merged histories y i = in-fold (all_of histories) [] y (inr i)

-- ---- two lists in order that have the same entries are equal

not-first : (x : Entry) (xs : List Entry) → Each (Before x) xs → In x xs → ⊥
not-first x xs all i = let b = Each-in (Before x) xs x all i in before-not x x b b

rest-in : (x y : Entry) (xs ys : List Entry) → Each (Before x) xs → x ≡ y → ((e : Entry) → In e (x ∷ xs) → In e (y ∷ ys)) → (e : Entry) → In e xs → In e ys
rest-in x y xs ys first same f e i = go (f e (inr i))
  where
    go : (y ≡ e) ⊎ In e ys → In e ys
    go (inl is) = absurd (not-first x xs first (subst (λ z. In z xs) (sym (same ∙ is)) i))
    go (inr j) = j

pub sorted-same : (xs ys : List Entry) → Sorted xs → Sorted ys → ((e : Entry) → In e xs → In e ys) → ((e : Entry) → In e ys → In e xs) → xs ≡ ys
sorted-same [] [] s t f g = refl
sorted-same [] (y ∷ ys) s t f g = absurd (g y (inl refl))
sorted-same (x ∷ xs) [] s t f g = absurd (f x (inl refl))
sorted-same (x ∷ xs) (y ∷ ys) s t f g =
    go (f x (inl refl)) (g y (inl refl))
    (λ same. sorted-same xs ys s.1 t.1 (rest-in x y xs ys s.0 same f) (rest-in y x ys xs t.0 (sym same) g))
  where
    equal : x ≡ y → (x ≡ y → xs ≡ ys) → (x ∷ xs) ≡ (y ∷ ys)
    equal same rest = let r = rest same in rw (same, r) refl

    go : (y ≡ x) ⊎ In x ys → (x ≡ y) ⊎ In y xs → (x ≡ y → xs ≡ ys) → (x ∷ xs) ≡ (y ∷ ys)
    go (inl same) j rest = equal (sym same) rest
    go (inr i) (inl same) rest = equal same rest
    go (inr i) (inr j) rest = absurd (before-not x y (Each-in (Before x) xs y s.0 j) (Each-in (Before y) ys x t.0 i))

pub sorted-filter : (p : Entry → Bool) (xs : List Entry) → Sorted xs → Sorted (filter p xs)
sorted-filter p [] s = tt
sorted-filter p (x ∷ xs) s = go (p x) (sorted-filter p xs s.1)
  where
    go : (t : Bool) → Sorted (filter p xs) → Sorted (cond t (x ∷ filter p xs) (filter p xs))
    go true ih = (Each-by (Before x) (filter p xs) (λ y i. Each-in (Before x) xs y s.0 (In-filter p xs y i)), ih)
    go false ih = ih
