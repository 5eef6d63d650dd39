-- An element of a list, and of another that goes with it
use Rattle.std.proofs.Common.{◌<◌, ◌≡◌, ℕ, zero, suc, List, [], ◌∷◌, length, map, ap, sym, ◌∙◌, subst, arith, Some, refl}
use Rattle.std.specs.Prelude.{slice_get, slice_set, slice_index_or}
use Rattle.std.proofs.lemmas.List.{length-map}
use Rattle.cm_history.proofs.PublicLaws.{Each}
use Rattle.turn_gate.specs.Seats.{GateName, SeatState}

pub map-index : {X Y : Type 0} (f : X → Y) (xs : List X) (k : ℕ) (x : X) (d : Y) → k < length xs → x ≡ slice_index_or xs k x → slice_index_or (map f xs) k d ≡ f x
map-index f [] k x d low is = absurd (omega arith)
map-index f (y ∷ ys) zero x d low is = ap f (sym is)
map-index f (y ∷ ys) (suc k) x d low is = map-index f ys k x d (omega arith) is

pub index-here : {X : Type 0} (xs : List X) (k : ℕ) (x d : X) → k < length xs → x ≡ slice_index_or xs k x → slice_index_or xs k d ≡ x
index-here [] k x d low is = absurd (omega arith)
index-here (y ∷ ys) zero x d low is = sym is
index-here (y ∷ ys) (suc k) x d low is = index-here ys k x d (omega arith) is

pub map-get : {X Y : Type 0} (f : X → Y) (xs : List X) (k : ℕ) (x : X) → k < length xs → x ≡ slice_index_or xs k x → slice_get (map f xs) k ≡ Some (f x)
map-get f [] k x low is = absurd (omega arith)
map-get f (y ∷ ys) zero x low is = ap (λ v. Some (f v)) (sym is)
map-get f (y ∷ ys) (suc k) x low is = map-get f ys k x (omega arith) is

pub map-set : {X Y : Type 0} (f : X → Y) (xs : List X) (k : ℕ) (y : X) → map f (slice_set xs k y) ≡ slice_set (map f xs) k (f y)
map-set f [] k y = refl
map-set f (x ∷ xs) zero y = refl
map-set f (x ∷ xs) (suc k) y = ap (λ l. f x ∷ l) (map-set f xs k y)

-- a change that the function does not see
pub map-kept : {X Y : Type 0} (f : X → Y) (xs : List X) (k : ℕ) (x y : X) → k < length xs → x ≡ slice_index_or xs k x → f y ≡ f x → map f (slice_set xs k y) ≡ map f xs
map-kept f [] k x y low is same = refl
map-kept f (z ∷ zs) zero x y low is same = ap (λ v. v ∷ map f zs) (same ∙ ap f is)
map-kept f (z ∷ zs) (suc k) x y low is same = ap (λ l. f z ∷ l) (map-kept f zs k x y (omega arith) is same)

pub set-here : {X : Type 0} (xs : List X) (k : ℕ) (y d : X) → k < length xs → slice_index_or (slice_set xs k y) k d ≡ y
set-here [] k y d low = absurd (omega arith)
set-here (x ∷ xs) zero y d low = refl
set-here (x ∷ xs) (suc k) y d low = set-here xs k y d (omega arith)

-- the list under a function shows the new element
pub map-here : {X Y : Type 0} (f : X → Y) (xs : List X) (k : ℕ) (y : X) (d : Y) → k < length xs → slice_index_or (map f (slice_set xs k y)) k d ≡ f y
map-here f [] k y d low = absurd (omega arith)
map-here f (x ∷ xs) zero y d low = refl
map-here f (x ∷ xs) (suc k) y d low = map-here f xs k y d (omega arith)

pub each-at : {X : Type 0} (P : X → Type 0) (xs : List X) (k : ℕ) (x : X) → k < length xs → x ≡ slice_index_or xs k x → Each P xs → P x
each-at P [] k x low is all = absurd (omega arith)
each-at P (y ∷ ys) zero x low is all = subst P (sym is) all.0
each-at P (y ∷ ys) (suc k) x low is all = each-at P ys k x (omega arith) is all.1

-- a seat is at the gate of its place
pub gate-at : {E K : Type 0} (seats : List (SeatState E K)) (gates : List (GateName K)) (s : SeatState E K) (g : GateName K) (k : ℕ)
    → map (λ (t : SeatState E K). t.gate) seats ≡ gates → k < length seats → s ≡ slice_index_or seats k s → g ≡ slice_index_or gates k g → s.gate ≡ g
gate-at {E} {K} seats gates s g k same low at_seat at_gate = sym (map-index (λ (t : SeatState E K). t.gate) seats k s g low at_seat) ∙ ap (λ l. slice_index_or l k g) same ∙ sym at_gate
