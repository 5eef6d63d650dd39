-- Which list has the first of the entries that are left
use Rattle.std.proofs.Common.{◌<◌, ◌≤◌, ◌≡◌, ℕ, zero, suc, ◌+◌, List, [], ◌∷◌, length, ap, sym, ◌∙◌, subst, arith, true, false, inl, inr, map, Option, Some, None}
use Rattle.std.specs.Prelude.{◌⊎◌, ◌==◌, ◌&&◌, ◌||◌, nat_lt, nat_le, slice_get, slice_index, slice_index_or}
use Rattle.std.proofs.lemmas.Bool.{cases_lt}
use Rattle.std.proofs.lemmas.Bool.Decides.{nat_tests}
use Rattle.cm_history.specs.declared.act.Entry.{Entry}
use Rattle.merged_history.specs.Merged.{is_earlier}
use Rattle.merged_history.specs.inner.Merging.{head, precedes, Found}

earlier-trans : (s t r u v w : ℕ) → (nat_lt s t || ((s == t) && nat_le u v)) ≡ true → (nat_lt t r || ((t == r) && nat_le v w)) ≡ true → (nat_lt s r || ((s == r) && nat_le u w)) ≡ true
earlier-trans s t r u v w a b = grind (arith, nat_tests)

earlier-total : (s t u v : ℕ) → (nat_lt s t || ((s == t) && nat_le u v)) ≡ false → (nat_lt t s || ((t == s) && nat_le v u)) ≡ true
earlier-total s t u v a = grind (arith, nat_tests)

earlier-self : (s u : ℕ) → (nat_lt s s || ((s == s) && nat_le u u)) ≡ true
earlier-self s u = grind (arith, nat_tests)

pub is_earlier-later : (a b c : Entry) → is_earlier a b ≡ true → is_earlier b c ≡ true → is_earlier a c ≡ true
is_earlier-later a b c = earlier-trans a.stamp b.stamp c.stamp a.unit b.unit c.unit

pub is_earlier-turned : (a b : Entry) → is_earlier a b ≡ false → is_earlier b a ≡ true
is_earlier-turned a b = earlier-total a.stamp b.stamp a.unit b.unit

pub is_earlier-self : (a : Entry) → is_earlier a a ≡ true
is_earlier-self a = earlier-self a.stamp a.unit

split : (n unit : ℕ) → unit < n + 1 → (unit < n) ⊎ (unit ≡ n)
split n unit low = go (cases_lt unit n)
  where
    go : (unit < n) ⊎ (n ≤ unit) → (unit < n) ⊎ (unit ≡ n)
    go (inl less) = inl less
    go (inr le) = inr (omega arith)

-- no entry of the next list is left
pub found-none : (hs : List (List Entry)) (at : List ℕ) (n best : ℕ) (first : Option Entry) → Found hs at n best first → head hs at n ≡ None → Found hs at (n + 1) best first
found-none hs at n best None found none = λ unit low. go unit (split n unit low)
  where
    go : (unit : ℕ) → (unit < n) ⊎ (unit ≡ n) → head hs at unit ≡ None
    go unit (inl less) = found unit less
    go unit (inr same) = ap (head hs at) same ∙ none
found-none hs at n best (Some first) found none = let low = found.low in record {
  low = omega (arith, low);
  has = found.has;
  least = λ unit e l is. go unit e is (split n unit l);
}
  where
    go : (unit : ℕ) (e : Entry) → head hs at unit ≡ Some e → (unit < n) ⊎ (unit ≡ n) → is_earlier first e ≡ true
    go unit e is (inl less) = found.least unit e less is
    go unit e is (inr same) = let no = sym none ∙ ap (head hs at) (sym same) ∙ is in cc

-- the next list has an entry that comes before those so far
pub found-better : (hs : List (List Entry)) (at : List ℕ) (n best : ℕ) (first : Option Entry) (e : Entry) → Found hs at n best first → head hs at n ≡ Some e → precedes e first ≡ true → Found hs at (n + 1) n (Some e)
found-better hs at n best first e found is better = record {
  low = omega arith;
  has = is;
  least = λ unit f l at_unit. go first found better unit f at_unit (split n unit l);
}
  where
    go : (first : Option Entry) → Found hs at n best first → precedes e first ≡ true → (unit : ℕ) (f : Entry) → head hs at unit ≡ Some f → (unit < n) ⊎ (unit ≡ n) → is_earlier e f ≡ true
    go None found better unit f at_unit (inl less) = let no = sym (found unit less) ∙ at_unit in cc
    go (Some g) found better unit f at_unit (inl less) = is_earlier-later e g f better (found.least unit f less at_unit)
    go other found better unit f at_unit (inr same) =
        let both : Some e ≡ Some f = sym is ∙ ap (head hs at) (sym same) ∙ at_unit in
        let one : e ≡ f = cc in
        subst (λ x. is_earlier e x ≡ true) one (is_earlier-self e)

-- it has one that does not
pub found-worse : (hs : List (List Entry)) (at : List ℕ) (n best : ℕ) (first : Option Entry) (e : Entry) → Found hs at n best first → head hs at n ≡ Some e → precedes e first ≡ false → Found hs at (n + 1) best first
found-worse hs at n best None e found is worse = cc
found-worse hs at n best (Some first) e found is worse = let low = found.low in record {
  low = omega (arith, low);
  has = found.has;
  least = λ unit f l at_unit. go unit f at_unit (split n unit l);
}
  where
    go : (unit : ℕ) (f : Entry) → head hs at unit ≡ Some f → (unit < n) ⊎ (unit ≡ n) → is_earlier first f ≡ true
    go unit f at_unit (inl less) = found.least unit f less at_unit
    go unit f at_unit (inr same) =
        let both : Some e ≡ Some f = sym is ∙ ap (head hs at) (sym same) ∙ at_unit in
        let one : e ≡ f = cc in
        subst (λ x. is_earlier first x ≡ true) one (is_earlier-turned e first worse)

-- the list of one unit among all
pub map-at : {X : Type 0} (f : X → List Entry) (xs : List X) (k : ℕ) (x : X) → k < length xs → x ≡ slice_index_or xs k x → slice_index_or (map f xs) k [] ≡ f x
map-at f [] k x low is = absurd (omega arith)
map-at f (y ∷ ys) zero x low is = ap f (sym is)
map-at f (y ∷ ys) (suc k) x low is = map-at f ys k x (omega arith) is

pub head-is : {X : Type 0} (f : X → List Entry) (xs : List X) (at : List ℕ) (k : ℕ) (x : X) → k < length xs → x ≡ slice_index_or xs k x → slice_get (f x) (slice_index at k) ≡ head (map f xs) at k
head-is f xs at k x low is = ap (λ l. slice_get l (slice_index at k)) (sym (map-at f xs k x low is))
