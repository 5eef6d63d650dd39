-- Operations, one by one
use Rattle.std.proofs.Common.{◌≡◌, ℕ, zero, suc, ◌+◌, ◌<◌, ◌≤◌, List, [], ◌∷◌, ◌++◌, length, take, get_or, min, refl, ap, sym, ◌∙◌, subst, arith, true, false, Bool, Some, None}
use Rattle.std.specs.Prelude.{map, find, filter, cond, ◌&&◌, ◌||◌}
use Rattle.std.specs.List.{list_any}
use Rattle.std.proofs.lemmas.List.{take_more}
use Rattle.lba_ranges.specs.Denoted.{blocks_of}
use Rattle.lba_ranges.specs.Writings.{Held, paired}
use Rattle.cm_history.specs.declared.act.Act.{Act}
use Rattle.cm_history.specs.Operations.{Operation, list_of}
use Rattle.plain_model.specs.inner.Holds.{IsSoundAct, IsSoundOperation, AllSound}
use Rattle.cm_history.proofs.PublicLaws.{find-filter as find-filtered}

pub length-paired : (bs : List ℕ) (xs : List Held) → length (paired bs xs) ≡ min (length bs) (length xs)
length-paired [] xs = omega arith
length-paired (b ∷ bs) [] = omega arith
length-paired (b ∷ bs) (x ∷ xs) = let h = length-paired bs xs in omega arith

-- the list of a sound act has few blocks
pub list-few : (act : Act) → IsSoundAct act → length (list_of act) ≤ 1_048_576
list-few (Act.Start id background ranges rod) is =
    let h = length-paired (blocks_of ranges) rod.items in
    let few = is.0 in
    omega arith
list-few _ is = omega arith

pub sound-at : (f : Operation → Operation) (os : List Operation) (i : ℕ) (o : Operation) → AllSound (map f os) → i < length os → o ≡ get_or os i o → IsSoundOperation (f o)
sound-at f [] i o all there is = absurd (omega arith)
sound-at f (x ∷ os) zero o all there is = subst (λ (y : Operation). IsSoundOperation (f y)) (sym is) all.0
sound-at f (x ∷ os) (suc i) o all there is = sound-at f os i o all.1 (omega arith) is

-- ---- finding in a walk

pub take-next : {X : Type 0} (xs : List X) (i : ℕ) (x : X) → i < length xs → x ≡ get_or xs i x → take (i + 1) xs ≡ take i xs ++ x ∷ []
take-next xs i x there is = take_more xs i x there ∙ ap (λ y. take i xs ++ y ∷ []) (sym is)

pub find-last : {X : Type 0} (p : X → Bool) (xs : List X) (x : X) → find p xs ≡ None → p x ≡ false → find p (xs ++ x ∷ []) ≡ None
find-last p [] x none misses = ap (λ t. cond t (Some x) None) misses
find-last p (y ∷ xs) x none misses = go (p y) none (λ h. find-last p xs x h misses)
  where
    go : (t : Bool) → cond t (Some y) (find p xs) ≡ None → (find p xs ≡ None → find p (xs ++ x ∷ []) ≡ None) → cond t (Some y) (find p (xs ++ x ∷ [])) ≡ None
    go true h later = cc
    go false h later = later h

pub find-later : {X : Type 0} (p : X → Bool) (xs : List X) (i : ℕ) (x : X) → i < length xs → x ≡ get_or xs i x → find p (take i xs) ≡ None → p x ≡ true → find p xs ≡ Some x
find-later p [] i x there is none passes = absurd (omega arith)
find-later p (y ∷ xs) zero x there is none passes = let same : y ≡ x = sym is in ap (λ t. cond t (Some y) (find p xs)) (ap p same ∙ passes) ∙ ap Some same
find-later p (y ∷ xs) (suc i) x there is none passes = go (p y) none (λ h. find-later p xs i x (omega arith) is h passes)
  where
    go : (t : Bool) → cond t (Some y) (find p (take i xs)) ≡ None → (find p (take i xs) ≡ None → find p xs ≡ Some x) → cond t (Some y) (find p xs) ≡ Some x
    go true h later = cc
    go false h later = later h

-- the first that passes both tests
pub served-found : {X : Type 0} (q p : X → Bool) (xs : List X) (i : ℕ) (x : X) → i < length xs → x ≡ get_or xs i x
    → find p (filter q (take i xs)) ≡ None → q x ≡ true → p x ≡ true → Some x ≡ find p (filter q xs)
served-found q p xs i x there is none first second =
    let both : q x && p x ≡ true = ap (λ t. t && p x) first ∙ second in
    sym (find-filtered q p xs ∙ find-later (λ y. q y && p y) xs i x there is (sym (find-filtered q p (take i xs)) ∙ none) both)

pub served-missed : {X : Type 0} (q p : X → Bool) (xs : List X) (i : ℕ) (x : X) → i < length xs → x ≡ get_or xs i x
    → find p (filter q (take i xs)) ≡ None → q x && p x ≡ false → find p (filter q (take (i + 1) xs)) ≡ None
served-missed q p xs i x there is none misses =
    find-filtered q p (take (i + 1) xs) ∙ ap (find (λ y. q y && p y)) (take-next xs i x there is)
    ∙ find-last (λ y. q y && p y) (take i xs) x (sym (find-filtered q p (take i xs)) ∙ none) misses

pub any-found : {X : Type 0} (q p : X → Bool) (xs : List X) (i : ℕ) (x : X) → i < length xs → x ≡ get_or xs i x → q x ≡ true → p x ≡ true
    → true ≡ list_any p (filter q xs)
any-found q p [] i x there is first second = absurd (omega arith)
any-found q p (y ∷ xs) zero x there is first second =
    let same : y ≡ x = sym is in
    let here : q y ≡ true = ap q same ∙ first in
    let passes : p y ≡ true = ap p same ∙ second in
    rw (here, passes) refl
any-found q p (y ∷ xs) (suc i) x there is first second = go (q y) (p y) (any-found q p xs i x (omega arith) is first second)
  where
    go : (t u : Bool) → true ≡ list_any p (filter q xs) → true ≡ list_any p (cond t (y ∷ filter q xs) (filter q xs))
    go false u h = h
    go true u h = later (p y)
      where
        later : (v : Bool) → true ≡ (v || list_any p (filter q xs))
        later true = refl
        later false = h
