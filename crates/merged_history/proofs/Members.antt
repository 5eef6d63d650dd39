-- Lemmas on the elements of lists
use Rattle.std.proofs.Common.{◌≡◌, zero, suc, List, [], ◌∷◌, ◌++◌, refl, ap, sym, ◌∙◌, subst, arith, true, false, Bool, inl, inr}
use Rattle.std.specs.Prelude.{AllPairs, Contains, ◌⊎◌, filter, cond, ⊤}
use Rattle.cm_history.proofs.PublicLaws.{In, Each, Each-all}

pub In-append : {X : Type 0} (xs ys : List X) (x : X) → In x xs → In x (xs ++ ys)
In-append [] ys x i = absurd i
In-append (y ∷ xs) ys x (inl e) = inl e
In-append (y ∷ xs) ys x (inr i) = inr (In-append xs ys x i)

pub In-append_right : {X : Type 0} (xs ys : List X) (x : X) → In x ys → In x (xs ++ ys)
In-append_right [] ys x i = i
In-append_right (y ∷ xs) ys x i = inr (In-append_right xs ys x i)

pub In-split : {X : Type 0} (xs ys : List X) (x : X) → In x (xs ++ ys) → In x xs ⊎ In x ys
In-split [] ys x i = inr i
In-split (y ∷ xs) ys x (inl e) = inl (inl e)
In-split (y ∷ xs) ys x (inr i) = go (In-split xs ys x i)
  where
    go : In x xs ⊎ In x ys → In x (y ∷ xs) ⊎ In x ys
    go (inl j) = inl (inr j)
    go (inr j) = inr j

pub in-filter : {X : Type 0} (p : X → Bool) (xs : List X) (x : X) → In x xs → p x ≡ true → In x (filter p xs)
in-filter p [] x i e = absurd i
in-filter p (y ∷ ys) x i e = go (p y) refl i (λ j. in-filter p ys x j e)
  where
    go : (t : Bool) → p y ≡ t → (y ≡ x) ⊎ In x ys → (In x ys → In x (filter p ys)) → In x (cond t (y ∷ filter p ys) (filter p ys))
    go true is (inl same) later = inl same
    go true is (inr j) later = inr (later j)
    go false is (inl same) later = let no = sym is ∙ ap p same ∙ e in cc
    go false is (inr j) later = later j

pub in-contains : {X : Type 0} (xs : List X) (x : X) → In x xs → Contains xs x
in-contains [] x i = absurd i
in-contains (y ∷ xs) x (inl e) = (0, omega arith, e)
in-contains (y ∷ xs) x (inr i) = let c = in-contains xs x i in (suc c.0, omega (arith, c.1), c.2)

-- R of each element and each later one
abbrev pub Pairs : {X : Type 0} → (X → X → Type 0) → List X → Type 0
Pairs R [] = ⊤
Pairs R (x ∷ xs) = Each (R x) xs × Pairs R xs

pub Pairs-all : {X : Type 0} (R : X → X → Type 0) (xs : List X) → Pairs R xs → AllPairs R xs
Pairs-all R [] pairs i j d low high = absurd (omega arith)
Pairs-all R (x ∷ xs) pairs i zero d low high = absurd (omega arith)
Pairs-all R (x ∷ xs) pairs zero (suc j) d low high = Each-all (R x) xs pairs.0 j d (omega arith)
Pairs-all R (x ∷ xs) pairs (suc i) (suc j) d low high = Pairs-all R xs pairs.1 i j d (omega arith) (omega arith)
