-- At the end each entry of a history was made by a seat that was joined in
use Rattle.std.proofs.Common.{◌<◌, ◌≤◌, ◌≡◌, ℕ, zero, suc, ◌+◌, List, [], ◌∷◌, ◌++◌, length, drop, refl, ap, sym, ◌∙◌, subst, arith, Bool, true, false, Some, inl, inr}
use Rattle.std.specs.Prelude.{◌⊎◌, slice_get, eqb, leb, ltb, ◌&&◌}
use Rattle.std.specs.List.{All}
use Rattle.std.proofs.lemmas.Bool.Decides.{nat_tests}
use mathlib.Core.List.{IsPrefix}
use Rattle.cm_history.specs.declared.act.Entry.{Entry}
use Rattle.cm_history.proofs.PublicLaws.{Each, Each-by, In}
use Rattle.merged_history.proofs.PublicLaws.{In-append, In-split}
use Rattle.turn_gate.specs.declared.view.Own.{Own}
use Rattle.turn_gate.specs.declared.view.Joined.{Joined}
use Rattle.turn_gate.specs.Places.{times, times_joined, one_if, inside, EachOnce, IsPart}
use Rattle.nexus.specs.inner.Keeping.{entries_of, entries_joined}
use Rattle.nexus.proofs.Members.{In-right}

record IsMade (history : List Entry) (p : ℕ) (made : List Entry) : Type 0 where
  pub entry : Entry
  pub at : slice_get history p ≡ Some entry
  pub in_made : In entry made

pub get-left : (xs ys : List Entry) (p : ℕ) (e : Entry) → slice_get xs p ≡ Some e → slice_get (xs ++ ys) p ≡ Some e
get-left [] ys p e is = cc
get-left (x ∷ xs) ys zero e is = is
get-left (x ∷ xs) ys (suc p) e is = get-left xs ys p e is

own-made : (seen : List Entry) (own : List (Own Entry)) (p : ℕ) → All (λ (o : Own Entry). slice_get seen o.place ≡ Some o.entry) own → 0 < times p own → IsMade seen p (entries_of own)
own-made seen [] p all some = absurd (omega (arith, some))
own-made seen (o ∷ os) p all some = go (eqb o.place p) refl (λ more. own-made seen os p (λ k d low. all (suc k) d (omega arith)) more)
  where
    go : (b : Bool) → eqb o.place p ≡ b → (0 < times p os → IsMade seen p (entries_of os)) → IsMade seen p (entries_of (o ∷ os))
    go true is next =
        let same : o.place ≡ p = grind (arith, nat_tests) in
        record { entry = o.entry; at = subst (λ k. slice_get seen k ≡ Some o.entry) same (all 0 o (omega arith)); in_made = inl refl }
    go false is next =
        let sum = subst (λ b. 0 < one_if b + times p os) is some in
        let more : 0 < times p os = omega (arith, sum) in
        let rest = next more in
        record { entry = rest.entry; at = rest.at; in_made = inr rest.in_made }

joined-made : (history : List Entry) (joined : List (Joined Entry)) (p : ℕ) → All (IsPart history) joined → 0 < times_joined p joined → IsMade history p (entries_joined joined)
joined-made history [] p all some = absurd (omega (arith, some))
joined-made history (j ∷ js) p all some = go (times p j.own) refl (λ more. joined-made history js p (λ k d low. all (suc k) d (omega arith)) more)
  where
    part : IsPart history j
    part = all 0 j (omega arith)

    go : (n : ℕ) → times p j.own ≡ n → (0 < times_joined p js → IsMade history p (entries_joined js)) → IsMade history p (entries_joined (j ∷ js))
    go zero is next =
        let more : 0 < times_joined p js = omega (arith, some, is) in
        let rest = next more in
        record { entry = rest.entry; at = rest.at; in_made = In-right (entries_of j.own) (entries_joined js) rest.entry rest.in_made }
    go (suc n) is next =
        let here = own-made j.seen j.own p part.stand (omega (arith, is)) in
        record {
          entry = here.entry;
          at = subst (λ l. slice_get l p ≡ Some here.entry) part.seen.1 (get-left j.seen part.seen.0 p here.entry here.at);
          in_made = In-append (entries_of j.own) (entries_joined js) here.entry here.in_made;
        }

each-place : (P : Entry → Type 0) (xs : List Entry) → ((p : ℕ) (e : Entry) → slice_get xs p ≡ Some e → P e) → Each P xs
each-place P [] all = tt
each-place P (x ∷ xs) all = (all 0 x refl, each-place P xs (λ p e at. all (suc p) e at))

get-low : (xs : List Entry) (p : ℕ) (e : Entry) → slice_get xs p ≡ Some e → p < length xs
get-low [] p e at = cc
get-low (x ∷ xs) zero e at = omega arith
get-low (x ∷ xs) (suc p) e at = let low = get-low xs p e at in omega (arith, low)

get-drop : (n : ℕ) (xs : List Entry) (p : ℕ) (e : Entry) → slice_get (drop n xs) p ≡ Some e → slice_get xs (n + p) ≡ Some e
get-drop zero xs p e at = ap (slice_get xs) (zero-add p) ∙ at
  where
    zero-add : (p : ℕ) → 0 + p ≡ p
    zero-add p = omega arith
get-drop (suc n) [] p e at = cc
get-drop (suc n) (x ∷ xs) p e at = let next : suc n + p ≡ suc (n + p) = omega arith in ap (slice_get (x ∷ xs)) next ∙ get-drop n xs p e at

drop-in : (n : ℕ) (xs : List Entry) (p : ℕ) (e : Entry) → n ≤ p → slice_get xs p ≡ Some e → In e (drop n xs)
drop-in zero [] p e low at = cc
drop-in zero (x ∷ xs) zero e low at = inl cc
drop-in zero (x ∷ xs) (suc p) e low at = inr (drop-in zero xs p e (omega arith) at)
drop-in (suc n) [] p e low at = cc
drop-in (suc n) (x ∷ xs) zero e low at = absurd (omega (arith, low))
drop-in (suc n) (x ∷ xs) (suc p) e low at = drop-in n xs p e (omega (arith, low)) at

inside-one : (from until p : ℕ) → from ≤ p → p < until → inside from until p ≡ 1
inside-one from until p first low =
    let above : leb from p ≡ true = grind (arith, nat_tests) in
    let below : ltb p until ≡ true = grind (arith, nat_tests) in
    rw (above, below) refl

inside-above : (from until p : ℕ) → 0 < inside from until p → from ≤ p
inside-above from until p some = go (leb from p) refl some
  where
    go : (b : Bool) → leb from p ≡ b → 0 < one_if (b && ltb p until) → from ≤ p
    go true is some = grind (arith, nat_tests)
    go false is some = absurd (omega (arith, some))

-- each entry behind the opening ones was made by a seat that was joined
pub all-made : (opening : ℕ) (history : List Entry) (joined : List (Joined Entry)) → All (IsPart history) joined → EachOnce opening history [] joined → Each (λ (e : Entry). In e (entries_joined joined)) (drop opening history)
all-made opening history joined parts once = each-place (λ (e : Entry). In e (entries_joined joined)) (drop opening history) (λ p e at.
    let there = get-drop opening history p e at in
    let one = once (opening + p) ∙ inside-one opening (length history) (opening + p) (omega arith) (get-low history (opening + p) e there) in
    let made = joined-made history joined (opening + p) parts (omega (arith, one)) in
    let same : made.entry ≡ e = (let a = made.at in cc) in
    subst (λ x. In x (entries_joined joined)) same made.in_made)

-- ---- and the other way round

-- an own entry stands at its place, and is counted there
record IsPlaced (history : List Entry) (e : Entry) (count : ℕ → ℕ) : Type 0 where
  place : ℕ
  at : slice_get history place ≡ Some e
  counted : 0 < count place

own-placed : (seen : List Entry) (own : List (Own Entry)) (e : Entry) → All (λ (o : Own Entry). slice_get seen o.place ≡ Some o.entry) own → In e (entries_of own) → IsPlaced seen e (λ p. times p own)
own-placed seen [] e all i = absurd i
own-placed seen (o ∷ os) e all (inl is) =
    let same : eqb o.place o.place ≡ true = grind (arith, nat_tests) in
    let one : one_if (eqb o.place o.place) ≡ 1 = ap one_if same in
    record { place = o.place; at = all 0 o (omega arith) ∙ ap Some is; counted = omega (arith, one) }
own-placed seen (o ∷ os) e all (inr i) =
    let rest = own-placed seen os e (λ k d low. all (suc k) d (omega arith)) i in
    let more = rest.counted in
    record { place = rest.place; at = rest.at; counted = omega (arith, more) }

joined-placed : (history : List Entry) (joined : List (Joined Entry)) (e : Entry) → All (IsPart history) joined → In e (entries_joined joined) → IsPlaced history e (λ p. times_joined p joined)
joined-placed history [] e all i = absurd i
joined-placed history (j ∷ js) e all i = go (In-split (entries_of j.own) (entries_joined js) e i) (λ more. joined-placed history js e (λ k d low. all (suc k) d (omega arith)) more)
  where
    part : IsPart history j
    part = all 0 j (omega arith)

    go : In e (entries_of j.own) ⊎ In e (entries_joined js) → (In e (entries_joined js) → IsPlaced history e (λ p. times_joined p js)) → IsPlaced history e (λ p. times_joined p (j ∷ js))
    go (inl mine) next =
        let here = own-placed j.seen j.own e part.stand mine in
        let more = here.counted in
        record {
          place = here.place;
          at = subst (λ l. slice_get l here.place ≡ Some e) part.seen.1 (get-left j.seen part.seen.0 here.place e here.at);
          counted = omega (arith, more);
        }
    go (inr other) next =
        let rest = next other in
        let more = rest.counted in
        record { place = rest.place; at = rest.at; counted = omega (arith, more) }

-- each entry of a seat that was joined stands behind the opening ones
pub all-later : (opening : ℕ) (history : List Entry) (joined : List (Joined Entry)) → All (IsPart history) joined → EachOnce opening history [] joined → Each (λ (e : Entry). In e (drop opening history)) (entries_joined joined)
all-later opening history joined parts once = Each-by (λ (e : Entry). In e (drop opening history)) (entries_joined joined) (λ e i.
    let it = joined-placed history joined e parts i in
    let more = it.counted in
    let one = once it.place in
    let above = inside-above opening (length history) it.place (omega (arith, one, more)) in
    drop-in opening history it.place e above it.at)
