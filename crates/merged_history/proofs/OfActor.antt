-- The entries of one actor, pass after pass
use Rattle.std.proofs.Common.{◌<◌, ◌≡◌, ℕ, suc, ◌+◌, List, [], ◌∷◌, ◌++◌, length, refl, ap, sym, ◌∙◌, subst, arith, true, false, Bool, inl, inr, append-nil, append_assoc, zero-add}
use Rattle.std.specs.Prelude.{◌&&◌, nat_lt, filter, cond, count_by, if◌then◌else◌}
use Rattle.std.proofs.lemmas.Bool.Decides.{nat_tests}
use Rattle.std.proofs.lemmas.List.Sums.{sum_by-cons}
use Rattle.cm_base.specs.Configuration.{Configuration}
use Rattle.cm_history.specs.declared.act.Actor.{Actor}
use Rattle.cm_history.specs.declared.act.Actor.TheVariants.{Nexus, Pump}
use Rattle.cm_history.specs.declared.act.Entry.{Entry}
use Rattle.cm_history.specs.Deeds.{same_actor}
use Rattle.cm_history.proofs.PublicLaws.{Each-in, Each-by, Each-append, same_actor-is, In, Each}
use Rattle.merged_history.specs.Own.{Rises, IsNumbered, IsBelow, IsOwn}
use Rattle.merged_history.specs.Seats.{Joined, own_of}
use Rattle.merged_history.specs.Passes.{AreJoined}
use Rattle.merged_history.proofs.Sorted.{Before, Sorted}

-- ---- lists whose stamps rise

pub rises-above : (low : ℕ) (xs : List Entry) → Rises low xs → Each (λ (e : Entry). low < e.stamp) xs
rises-above low [] r = tt
rises-above low (x ∷ xs) r = (r.0, Each-by _ xs (λ e i. let above = Each-in _ xs e (rises-above x.stamp xs r.1) i in let first = r.0 in omega (arith, above, first)))

pub rises-sorted : (low : ℕ) (xs : List Entry) → Rises low xs → Sorted xs
rises-sorted low [] r = tt
rises-sorted low (x ∷ xs) r = (Each-by (Before x) xs (λ e i. inl (Each-in _ xs e (rises-above x.stamp xs r.1) i)), rises-sorted x.stamp xs r.1)

-- two entries of one stamp are one
pub rises-one : (low : ℕ) (xs : List Entry) (a b : Entry) → Rises low xs → In a xs → In b xs → a.stamp ≡ b.stamp → a ≡ b
rises-one low [] a b r i j e = absurd i
rises-one low (x ∷ xs) a b r (inl s) (inl t) e = sym s ∙ t
rises-one low (x ∷ xs) a b r (inl s) (inr j) e =
    let above = Each-in _ xs b (rises-above x.stamp xs r.1) j in let first : x.stamp ≡ a.stamp = ap (λ (z : Entry). z.stamp) s in absurd (omega (arith, above, first, e))
rises-one low (x ∷ xs) a b r (inr i) (inl t) e =
    let above = Each-in _ xs a (rises-above x.stamp xs r.1) i in let first : x.stamp ≡ b.stamp = ap (λ (z : Entry). z.stamp) t in absurd (omega (arith, above, first, e))
rises-one low (x ∷ xs) a b r (inr i) (inr j) e = rises-one x.stamp xs a b r.1 i j e

pub rises-append : (low : ℕ) (xs ys : List Entry) → Rises low xs → Rises low ys → IsBelow xs ys → Rises low (xs ++ ys)
rises-append low [] ys r s below = s
rises-append low (x ∷ xs) ys r s below = (r.0, rises-append x.stamp xs ys r.1 (from ys s below.0) below.1)
  where
    from : (zs : List Entry) → Rises low zs → Each (λ (y : Entry). x.stamp < y.stamp) zs → Rises x.stamp zs
    from [] s all = tt
    from (z ∷ zs) s all = (all.0, s.1)

-- ---- lists whose seqs count

pub numbered-append : (from : ℕ) (xs ys : List Entry) → IsNumbered from xs → IsNumbered (from + length xs) ys → IsNumbered from (xs ++ ys)
numbered-append from [] ys n m = let e : from + 0 ≡ from = omega arith in subst (λ k. IsNumbered k ys) e m
numbered-append from (x ∷ xs) ys n m =
    let e : from + suc (length xs) ≡ suc from + length xs = omega arith in (n.0, numbered-append (suc from) xs ys n.1 (subst (λ k. IsNumbered k ys) e m))

-- how many entries have a lower stamp
abbrev pub lower : ℕ → List Entry → ℕ
lower stamp xs = count_by (λ (o : Entry). nat_lt o.stamp stamp) xs

one_if : Bool → ℕ
one_if b = cond b 1 0

pub count-cons : (p : Entry → Bool) (y : Entry) (xs : List Entry) → count_by p (y ∷ xs) ≡ cond (p y) 1 0 + count_by p xs
count-cons p y xs = sum_by-cons (λ (e : Entry). cond (p e) 1 0) y xs

lower-none : (stamp : ℕ) (xs : List Entry) → Each (λ (e : Entry). stamp < e.stamp) xs → lower stamp xs ≡ 0
lower-none stamp [] all = refl
lower-none stamp (x ∷ xs) all =
    let head = all.0 in
    let test : nat_lt x.stamp stamp ≡ false = grind (arith, nat_tests) in
    count-cons (λ (o : Entry). nat_lt o.stamp stamp) x xs ∙ ap (λ b. cond b 1 0 + lower stamp xs) test ∙ zero-add (lower stamp xs) ∙ lower-none stamp xs all.1

-- a list that counts numbers each entry by those before it
pub numbered-lower : (low from : ℕ) (xs : List Entry) (e : Entry) → Rises low xs → IsNumbered from xs → In e xs → e.seq ≡ from + lower e.stamp xs
numbered-lower low from [] e r n i = absurd i
numbered-lower low from (x ∷ xs) e r n (inl same) =
    let seq : e.seq ≡ from = ap (λ (z : Entry). z.seq) (sym same) ∙ n.0 in
    let at : x.stamp ≡ e.stamp = ap (λ (z : Entry). z.stamp) same in
    let test : nat_lt x.stamp e.stamp ≡ false = grind (arith, nat_tests) in
    let none : lower e.stamp xs ≡ 0 = ap (λ s. lower s xs) (sym at) ∙ lower-none x.stamp xs (rises-above x.stamp xs r.1) in
    let all : lower e.stamp (x ∷ xs) ≡ 0 = count-cons (λ (o : Entry). nat_lt o.stamp e.stamp) x xs ∙ ap (λ b. cond b 1 0 + lower e.stamp xs) test ∙ zero-add (lower e.stamp xs) ∙ none in
    omega (arith, seq, all)
numbered-lower low from (x ∷ xs) e r n (inr i) =
    let above = Each-in _ xs e (rises-above x.stamp xs r.1) i in
    let test : nat_lt x.stamp e.stamp ≡ true = grind (arith, nat_tests, above) in
    let all : lower e.stamp (x ∷ xs) ≡ 1 + lower e.stamp xs = count-cons (λ (o : Entry). nat_lt o.stamp e.stamp) x xs ∙ ap (λ b. cond b 1 0 + lower e.stamp xs) test in
    let rest = numbered-lower x.stamp (suc from) xs e r.1 n.1 i in
    omega (arith, rest, all)

-- counting those of a list that pass one test and another
pub count-filter : (p q : Entry → Bool) (xs : List Entry) → count_by (λ (o : Entry). p o && q o) xs ≡ count_by q (filter p xs)
count-filter p q [] = refl
count-filter p q (x ∷ xs) = count-cons (λ (o : Entry). p o && q o) x xs ∙ go (p x) (count-filter p q xs)
  where
    go : (t : Bool) → count_by (λ (o : Entry). p o && q o) xs ≡ count_by q (filter p xs) → cond (t && q x) 1 0 + count_by (λ (o : Entry). p o && q o) xs ≡ count_by q (cond t (x ∷ filter p xs) (filter p xs))
    go true ih = ap (λ n. cond (q x) 1 0 + n) ih ∙ sym (count-cons q x (filter p xs))
    go false ih = zero-add _ ∙ ih

-- ---- one more pass is joined

pub own_of-append : (actor : Actor) (js ks : List Joined) → own_of actor (js ++ ks) ≡ own_of actor js ++ own_of actor ks
own_of-append actor [] ks = refl
own_of-append actor (j ∷ js) ks = ap (λ l. (if same_actor j.actor actor then j.own else []) ++ l) (own_of-append actor js ks) ∙ sym (append_assoc (if same_actor j.actor actor then j.own else []) (own_of actor js) (own_of actor ks))

-- the entries of two lists, the second of which goes on where the first ended
pub own-append : (config : Configuration) (actor : Actor) (from : ℕ) (xs ys : List Entry) → IsOwn config actor from xs → IsOwn config actor (from + length xs) ys → IsBelow xs ys → IsOwn config actor from (xs ++ ys)
own-append config actor from xs ys a b below = record {
  mine = Each-append _ xs ys a.mine b.mine;
  asked = Each-append _ xs ys a.asked b.asked;
  rising = rises-append 0 xs ys a.rising b.rising below;
  numbered = numbered-append from xs ys a.numbered b.numbered;
}

-- a pass that goes on where the joined ones of its actor ended may be joined
pub joined-more : (config : Configuration) (js : List Joined) (j : Joined) → AreJoined config js → IsOwn config j.actor (length (own_of j.actor js)) j.own → IsBelow (own_of j.actor js) j.own → AreJoined config (js ++ j ∷ [])
joined-more config js j all own below = λ actor. rw (own_of-append actor js (j ∷ [])) (go actor (same_actor j.actor actor) refl)
  where
    go : (actor : Actor) (t : Bool) → same_actor j.actor actor ≡ t → IsOwn config actor 0 (own_of actor js ++ ((if t then j.own else []) ++ []))
    go actor false is = rw (append-nil (own_of actor js)) (all actor)
    go actor true is =
        let same = same_actor-is j.actor actor is in
        let o : IsOwn config actor (length (own_of actor js)) j.own = subst (λ a. IsOwn config a (length (own_of a js)) j.own) same own in
        let b : IsBelow (own_of actor js) j.own = subst (λ a. IsBelow (own_of a js) j.own) same below in
        rw (append-nil j.own) (own-append config actor 0 (own_of actor js) j.own (all actor) (subst (λ k. IsOwn config actor k j.own) (sym (zero-add (length (own_of actor js)))) o) b)

pub joined-none : (config : Configuration) → AreJoined config []
joined-none config = λ actor. record { mine = tt; asked = tt; rising = tt; numbered = tt }
