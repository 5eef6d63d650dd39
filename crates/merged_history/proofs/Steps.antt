-- The first of all entries that are left is the first of the merged ones
use Rattle.std.proofs.Common.{◌<◌, ◌≤◌, ◌≡◌, ℕ, zero, suc, ◌+◌, List, [], ◌∷◌, ◌++◌, length, drop, refl, ap, sym, ◌∙◌, subst, arith, true, inl, inr, Some, None}
use Rattle.std.specs.Prelude.{◌⊎◌, slice_get, slice_index, slice_set, fold, replicate}
use Rattle.cm_history.specs.declared.act.Entry.{Entry}
use Rattle.cm_history.proofs.PublicLaws.{Each-in, Each-by, In, Each}
use Rattle.merged_history.proofs.Members.{In-append, In-append_right, In-split}
use Rattle.merged_history.specs.Merged.{is_earlier, put_in_order, all_of, merged, rests}
use Rattle.merged_history.specs.Own.{Rises}
use Rattle.merged_history.specs.Passes.{of_unit, AreFrom}
use Rattle.merged_history.specs.inner.Merging.{head, AreDone, IsLeast}
use Rattle.merged_history.proofs.Sorted.{Before, earlier-before, merged-sorted, merged-in, in-merged, before-later, sorted-same}
use Rattle.merged_history.proofs.OfActor.{rises-above}
use Rattle.merged_history.proofs.Whole.{from-apart, in-unit}

-- ---- what is left of the lists

pub rises-lower : (low high : ℕ) (xs : List Entry) → low ≤ high → Rises high xs → Rises low xs
rises-lower low high [] le r = tt
rises-lower low high (x ∷ xs) le r = let first = r.0 in (omega (arith, first, le), r.1)

pub rises-drop : (low n : ℕ) (xs : List Entry) → Rises low xs → Rises low (drop n xs)
rises-drop low zero xs r = r
rises-drop low (suc n) [] r = tt
rises-drop low (suc n) (x ∷ xs) r = let first = r.0 in rises-lower low x.stamp (drop n xs) (omega (arith, first)) (rises-drop x.stamp n xs r.1)

pub each-drop : {X : Type 0} (P : X → Type 0) (n : ℕ) (xs : List X) → Each P xs → Each P (drop n xs)
each-drop P zero xs all = all
each-drop P (suc n) [] all = tt
each-drop P (suc n) (x ∷ xs) all = each-drop P n xs all.1

pub rests-from : (unit : ℕ) (at : List ℕ) (hs : List (List Entry)) → AreFrom unit hs → AreFrom unit (rests at hs)
rests-from unit [] hs all = all
rests-from unit (n ∷ ns) [] all = tt
rests-from unit (n ∷ ns) (h ∷ hs) all = (each-drop _ n h all.0, rises-drop 0 n h all.1, rests-from (suc unit) ns hs all.2)

drop-get : (xs : List Entry) (n : ℕ) (e : Entry) → slice_get xs n ≡ Some e → drop n xs ≡ e ∷ drop (suc n) xs
drop-get [] n e is = cc
drop-get (x ∷ xs) zero e is = let same : x ≡ e = cc in rw same refl
drop-get (x ∷ xs) (suc n) e is = drop-get xs n e is

get-drop : (xs : List Entry) (n : ℕ) (e : Entry) (es : List Entry) → drop n xs ≡ e ∷ es → slice_get xs n ≡ Some e
get-drop [] zero e es is = cc
get-drop [] (suc n) e es is = cc
get-drop (x ∷ xs) zero e es is = let same : x ≡ e = cc in ap Some same
get-drop (x ∷ xs) (suc n) e es is = get-drop xs n e es is

pub head-rest : (at : List ℕ) (hs : List (List Entry)) (unit : ℕ) (e : Entry) → length at ≡ length hs → head hs at unit ≡ Some e
    → of_unit (rests at hs) unit ≡ e ∷ drop (suc (slice_index at unit)) (of_unit hs unit)
head-rest [] [] unit e len is = cc
head-rest [] (h ∷ hs) unit e len is = absurd (omega (arith, len))
head-rest (n ∷ ns) [] unit e len is = absurd (omega (arith, len))
head-rest (n ∷ ns) (h ∷ hs) zero e len is = drop-get h n e is
head-rest (n ∷ ns) (h ∷ hs) (suc unit) e len is = head-rest ns hs unit e (omega (arith, len)) is

pub rest-head : (at : List ℕ) (hs : List (List Entry)) (unit : ℕ) (e : Entry) (es : List Entry) → length at ≡ length hs → of_unit (rests at hs) unit ≡ e ∷ es → head hs at unit ≡ Some e
rest-head [] [] unit e es len is = cc
rest-head [] (h ∷ hs) unit e es len is = absurd (omega (arith, len))
rest-head (n ∷ ns) [] unit e es len is = absurd (omega (arith, len))
rest-head (n ∷ ns) (h ∷ hs) zero e es len is = get-drop h n e es is
rest-head (n ∷ ns) (h ∷ hs) (suc unit) e es len is = rest-head ns hs unit e es (omega (arith, len)) is

pub rest-low : (at : List ℕ) (hs : List (List Entry)) (unit : ℕ) (e : Entry) (es : List Entry) → length at ≡ length hs → of_unit (rests at hs) unit ≡ e ∷ es → unit < length hs
rest-low [] [] unit e es len is = cc
rest-low [] (h ∷ hs) unit e es len is = absurd (omega (arith, len))
rest-low (n ∷ ns) [] unit e es len is = absurd (omega (arith, len))
rest-low (n ∷ ns) (h ∷ hs) zero e es len is = omega arith
rest-low (n ∷ ns) (h ∷ hs) (suc unit) e es len is = let low = rest-low ns hs unit e es (omega (arith, len)) is in omega (arith, low)

-- one more entry is taken of a list
pub rests-more : (at : List ℕ) (hs : List (List Entry)) (unit : ℕ) → length at ≡ length hs → rests (slice_set at unit (suc (slice_index at unit))) hs ≡ slice_set (rests at hs) unit (drop (suc (slice_index at unit)) (of_unit hs unit))
rests-more [] [] unit len = refl
rests-more [] (h ∷ hs) unit len = absurd (omega (arith, len))
rests-more (n ∷ ns) [] unit len = absurd (omega (arith, len))
rests-more (n ∷ ns) (h ∷ hs) zero len = refl
rests-more (n ∷ ns) (h ∷ hs) (suc unit) len = ap (λ l. drop n h ∷ l) (rests-more ns hs unit (omega (arith, len)))

-- ---- the first entry of a list is taken

pub taken-in : (hs : List (List Entry)) (unit : ℕ) (e : Entry) (t : List Entry) (y : Entry) → of_unit hs unit ≡ e ∷ t → In y (all_of hs) → (e ≡ y) ⊎ In y (all_of (slice_set hs unit t))
taken-in [] unit e t y is i = absurd i
taken-in (h ∷ hs) zero e t y is i = go (In-split h (all_of hs) y i)
  where
    here : (e ≡ y) ⊎ In y t → (e ≡ y) ⊎ In y (t ++ all_of hs)
    here (inl same) = inl same
    here (inr j) = inr (In-append t (all_of hs) y j)

    go : In y h ⊎ In y (all_of hs) → (e ≡ y) ⊎ In y (t ++ all_of hs)
    go (inl j) = here (subst (In y) is j)
    go (inr j) = inr (In-append_right t (all_of hs) y j)
taken-in (h ∷ hs) (suc unit) e t y is i = go (In-split h (all_of hs) y i) (λ j. taken-in hs unit e t y is j)
  where
    more : (e ≡ y) ⊎ In y (all_of (slice_set hs unit t)) → (e ≡ y) ⊎ In y (h ++ all_of (slice_set hs unit t))
    more (inl same) = inl same
    more (inr j) = inr (In-append_right h (all_of (slice_set hs unit t)) y j)

    go : In y h ⊎ In y (all_of hs) → (In y (all_of hs) → (e ≡ y) ⊎ In y (all_of (slice_set hs unit t))) → (e ≡ y) ⊎ In y (h ++ all_of (slice_set hs unit t))
    go (inl j) rest = inr (In-append h (all_of (slice_set hs unit t)) y j)
    go (inr j) rest = more (rest j)

pub in-taken : (hs : List (List Entry)) (unit : ℕ) (e : Entry) (t : List Entry) (y : Entry) → of_unit hs unit ≡ e ∷ t → (e ≡ y) ⊎ In y (all_of (slice_set hs unit t)) → In y (all_of hs)
in-taken [] unit e t y is i = cc
in-taken (h ∷ hs) zero e t y is (inl same) = In-append h (all_of hs) y (subst (In y) (sym is) (inl same))
in-taken (h ∷ hs) zero e t y is (inr i) = go (In-split t (all_of hs) y i)
  where
    go : In y t ⊎ In y (all_of hs) → In y (h ++ all_of hs)
    go (inl j) = In-append h (all_of hs) y (subst (In y) (sym is) (inr j))
    go (inr j) = In-append_right h (all_of hs) y j
in-taken (h ∷ hs) (suc unit) e t y is (inl same) = In-append_right h (all_of hs) y (in-taken hs unit e t y is (inl same))
in-taken (h ∷ hs) (suc unit) e t y is (inr i) = go (In-split h (all_of (slice_set hs unit t)) y i) (λ j. in-taken hs unit e t y is (inr j))
  where
    go : In y h ⊎ In y (all_of (slice_set hs unit t)) → (In y (all_of (slice_set hs unit t)) → In y (all_of hs)) → In y (h ++ all_of hs)
    go (inl j) rest = In-append h (all_of hs) y j
    go (inr j) rest = In-append_right h (all_of hs) y (rest j)

pub set-from : (from : ℕ) (hs : List (List Entry)) (unit : ℕ) (e : Entry) (t : List Entry) → AreFrom from hs → of_unit hs unit ≡ e ∷ t → AreFrom from (slice_set hs unit t)
set-from from [] unit e t all is = tt
set-from from (h ∷ hs) zero e t all is =
    let own = subst (Each (λ (x : Entry). x.unit ≡ from)) is all.0 in
    let rising = subst (Rises 0) is all.1 in
    (own.1, rises-lower 0 e.stamp t (omega arith) rising.1, all.2)
set-from from (h ∷ hs) (suc unit) e t all is = (all.0, all.1, set-from (suc from) hs unit e t all.2 is)

-- the lists after a change of one
set-of : (hs : List (List Entry)) (unit other : ℕ) (t : List Entry) → unit < length hs → ((other ≡ unit) × (of_unit (slice_set hs unit t) other ≡ t)) ⊎ (((other ≡ unit) → ⊥) × (of_unit (slice_set hs unit t) other ≡ of_unit hs other))
set-of [] unit other t low = absurd (omega arith)
set-of (h ∷ hs) zero zero t low = inl (refl, refl)
set-of (h ∷ hs) zero (suc other) t low = inr ((λ e. absurd (omega (arith, e))), refl)
set-of (h ∷ hs) (suc unit) zero t low = inr ((λ e. absurd (omega (arith, e))), refl)
set-of (h ∷ hs) (suc unit) (suc other) t low = go (set-of hs unit other t (omega arith))
  where
    go : ((other ≡ unit) × (of_unit (slice_set hs unit t) other ≡ t)) ⊎ (((other ≡ unit) → ⊥) × (of_unit (slice_set hs unit t) other ≡ of_unit hs other))
        → ((suc other ≡ suc unit) × (of_unit (slice_set hs unit t) other ≡ t)) ⊎ (((suc other ≡ suc unit) → ⊥) × (of_unit (slice_set hs unit t) other ≡ of_unit hs other))
    go (inl here) = let e = here.0 in inl (omega (arith, e), here.1)
    go (inr there) = let n = there.0 in inr ((λ e. n (omega (arith, e))), there.1)

pub of-from : (from : ℕ) (hs : List (List Entry)) (unit : ℕ) → AreFrom from hs → Each (λ (e : Entry). e.unit ≡ from + unit) (of_unit hs unit) × Rises 0 (of_unit hs unit)
of-from from [] unit all = (tt, tt)
of-from from (h ∷ hs) zero all = let e : from ≡ from + 0 = omega arith in (subst (λ u. Each (λ (x : Entry). x.unit ≡ u) h) e all.0, all.1)
of-from from (h ∷ hs) (suc unit) all = let e : suc from + unit ≡ from + suc unit = omega arith in let r = of-from (suc from) hs unit all.2 in (subst (λ u. Each (λ (x : Entry). x.unit ≡ u) (of_unit hs unit)) e r.0, r.1)

-- an entry that is the first of all
pub record IsFirst (hs : List (List Entry)) (unit : ℕ) (e : Entry) (t : List Entry) : Type 0 where
  pub low : unit < length hs
  pub is : of_unit hs unit ≡ e ∷ t
  pub least : (other : ℕ) (f : Entry) (fs : List Entry) → of_unit hs other ≡ f ∷ fs → is_earlier e f ≡ true

module _ (hs : List (List Entry)) (unit : ℕ) (e : Entry) (t : List Entry) (all : AreFrom 0 hs) (first : IsFirst hs unit e t) where
  left : AreFrom 0 (slice_set hs unit t)
  left = set-from 0 hs unit e t all first.is

  own-unit : e.unit ≡ unit
  own-unit = let here = (subst (Each (λ (x : Entry). x.unit ≡ 0 + unit)) first.is (of-from 0 hs unit all).0).0 in omega (arith, here)

  before-here : (y : Entry) → In y t → Before e y
  before-here y i = let rising = (subst (Rises 0) first.is (of-from 0 hs unit all).1).1 in inl (Each-in _ t y (rises-above e.stamp t rising) i)

  before-list : (other : ℕ) (l : List Entry) (y : Entry) → of_unit hs other ≡ l → ((other ≡ unit) → ⊥) → In y l → Before e y
  before-list other [] y is differ i = absurd i
  before-list other (f ∷ fs) y is differ i = go i
    where
      units : f.unit ≡ other
      units = let here = (subst (Each (λ (x : Entry). x.unit ≡ 0 + other)) is (of-from 0 hs other all).0).0 in omega (arith, here)

      head-before : Before e f
      head-before = earlier-before e f (λ s u. differ (let own = own-unit in let there = units in omega (arith, own, there, u))) (first.least other f fs is)

      go : (f ≡ y) ⊎ In y fs → Before e y
      go (inl same) = subst (Before e) same head-before
      go (inr j) =
          let rising = (subst (Rises 0) is (of-from 0 hs other all).1).1 in
          before-later e f y head-before (inl (Each-in _ fs y (rises-above f.stamp fs rising) j))

  before-rest : (y : Entry) → In y (merged (slice_set hs unit t)) → Before e y
  before-rest y i = go (set-of hs unit at.0 t first.low)
    where
      at : (k : ℕ) × (y.unit ≡ 0 + k) × In y (of_unit (slice_set hs unit t) k)
      at = in-unit 0 (slice_set hs unit t) y left (merged-in (slice_set hs unit t) y i)

      go : ((at.0 ≡ unit) × (of_unit (slice_set hs unit t) at.0 ≡ t)) ⊎ (((at.0 ≡ unit) → ⊥) × (of_unit (slice_set hs unit t) at.0 ≡ of_unit hs at.0)) → Before e y
      go (inl here) = before-here y (subst (In y) here.1 at.2)
      go (inr there) = before-list at.0 (of_unit hs at.0) y refl there.0 (subst (In y) there.1 at.2)

  -- the merged entries begin with it
  pub merged-first : merged hs ≡ e ∷ merged (slice_set hs unit t)
  merged-first =
      sorted-same (merged hs) (e ∷ merged (slice_set hs unit t)) (merged-sorted hs (from-apart 0 hs all))
      (Each-by (Before e) (merged (slice_set hs unit t)) before-rest, merged-sorted (slice_set hs unit t) (from-apart 0 (slice_set hs unit t) left))
      (λ y i. go y (taken-in hs unit e t y first.is (merged-in hs y i)))
      (λ y i. in-merged hs y (in-taken hs unit e t y first.is (back y i)))
    where
      go : (y : Entry) → (e ≡ y) ⊎ In y (all_of (slice_set hs unit t)) → In y (e ∷ merged (slice_set hs unit t))
      go y (inl same) = inl same
      go y (inr i) = inr (in-merged (slice_set hs unit t) y i)

      back : (y : Entry) → In y (e ∷ merged (slice_set hs unit t)) → (e ≡ y) ⊎ In y (all_of (slice_set hs unit t))
      back y (inl same) = inl same
      back y (inr i) = inr (merged-in (slice_set hs unit t) y i)

-- ---- one step of a merge

pub merged-step : (at : List ℕ) (hs : List (List Entry)) (unit : ℕ) (e : Entry) → AreFrom 0 hs → length at ≡ length hs → IsLeast hs at (length hs) unit e
    → merged (rests at hs) ≡ e ∷ merged (rests (slice_set at unit (suc (slice_index at unit))) hs)
merged-step at hs unit e all len least =
    merged-first (rests at hs) unit e (drop (suc (slice_index at unit)) (of_unit hs unit)) (rests-from 0 at hs all) first
    ∙ ap (λ l. e ∷ merged l) (sym (rests-more at hs unit len))
  where
    size : (ns : List ℕ) (ks : List (List Entry)) → length ns ≡ length ks → length (rests ns ks) ≡ length ks
    size [] ks l = refl
    size (n ∷ ns) [] l = refl
    size (n ∷ ns) (k ∷ ks) l = ap suc (size ns ks (omega (arith, l)))

    first : IsFirst (rests at hs) unit e (drop (suc (slice_index at unit)) (of_unit hs unit))
    first = record {
      low = let low = least.low in omega (arith, low, size at hs len);
      is = head-rest at hs unit e len least.has;
      least = λ other f fs is. least.least other f (rest-low at hs other f fs len is) (rest-head at hs other f fs len is);
    }

-- nothing is left
pub rests-done : (at : List ℕ) (hs : List (List Entry)) → length at ≡ length hs → AreDone hs at (length hs) → all_of (rests at hs) ≡ []
rests-done [] [] len done = refl
rests-done [] (h ∷ hs) len done = absurd (omega (arith, len))
rests-done (n ∷ ns) [] len done = absurd (omega (arith, len))
rests-done (n ∷ ns) (h ∷ hs) len done =
    let here : drop n h ≡ [] = none h n (done 0 (omega arith)) in
    rw here (rests-done ns hs (omega (arith, len)) (λ unit low. done (suc unit) (omega arith)))
  where
    none : (xs : List Entry) (k : ℕ) → slice_get xs k ≡ None → drop k xs ≡ []
    none [] zero is = refl
    none [] (suc k) is = refl
    none (x ∷ xs) zero is = cc
    none (x ∷ xs) (suc k) is = none xs k is

pub merged-done : (at : List ℕ) (hs : List (List Entry)) → length at ≡ length hs → AreDone hs at (length hs) → merged (rests at hs) ≡ []
merged-done at hs len done = ap (fold put_in_order []) (rests-done at hs len done)

-- at the start all is left
pub rests-none : (n : ℕ) (hs : List (List Entry)) → rests (replicate n 0) hs ≡ hs
rests-none zero hs = refl
rests-none (suc n) [] = refl
rests-none (suc n) (h ∷ hs) = ap (λ l. h ∷ l) (rests-none n hs)
