-- The merged history of a world is legal, and has what the passes made
use Rattle.std.proofs.Common.{◌<◌, ◌≤◌, ◌≡◌, ℕ, zero, suc, ◌+◌, List, [], ◌∷◌, ◌++◌, refl, ap, sym, ◌∙◌, subst, arith, true, inl, inr, zero-add}
use Rattle.std.specs.Prelude.{◌⊎◌, ◌≢◌, ◌==◌, nat_lt, count_by, IsTrue}
use Rattle.std.proofs.lemmas.Bool.Decides.{nat_tests}
use Rattle.cm_base.specs.Configuration.{Configuration}
use Rattle.cm_history.specs.declared.act.Actor.{Actor}
use Rattle.cm_history.specs.declared.act.Entry.{Entry}
use Rattle.cm_history.specs.Deeds.{same_actor}
use Rattle.cm_history.specs.History.{on}
use Rattle.cm_history.specs.Legal.{IsLegal, comes_before}
use Rattle.cm_history.proofs.PublicLaws.{same_actor-self, Each-in, Each-by, Each-append, Each-all, In-filter, filter-passes, same_actor-is, In, Each}
use Rattle.merged_history.proofs.Members.{In-append, In-append_right, In-split, in-filter, Pairs, Pairs-all}
use Rattle.merged_history.specs.Merged.{RiseByActor, all_of, merged}
use Rattle.merged_history.specs.Own.{by, Rises, IsAsked}
use Rattle.merged_history.specs.Seats.{Joined, own_of}
use Rattle.merged_history.specs.Passes.{AreJoined, of_unit, AreFrom, IsWhole}
use Rattle.merged_history.proofs.Sorted.{Before, Differs, Sorted, Apart, before-not, merged-sorted, merged-in, in-merged, sorted-pairs, sorted-same, sorted-filter}
use Rattle.merged_history.proofs.OfActor.{rises-above, rises-sorted, rises-one, numbered-lower, lower, count-filter}
use Rattle.merged_history.proofs.Given.{AreHistories, AreMadeBy}

-- ---- the entries of several units

pub all-in : (hs : List (List Entry)) (unit : ℕ) (e : Entry) → In e (of_unit hs unit) → In e (all_of hs)
all-in [] unit e i = absurd i
all-in (h ∷ hs) zero e i = In-append h (all_of hs) e i
all-in (h ∷ hs) (suc unit) e i = In-append_right h (all_of hs) e (all-in hs unit e i)

above-from : (unit : ℕ) (hs : List (List Entry)) → AreFrom unit hs → Each (λ (e : Entry). unit ≤ e.unit) (all_of hs)
above-from unit [] all = tt
above-from unit (h ∷ hs) all =
    Each-append _ h (all_of hs)
    (Each-by _ h (λ e i. let same = Each-in _ h e all.0 i in omega (arith, same)))
    (Each-by _ (all_of hs) (λ e i. let later = Each-in _ (all_of hs) e (above-from (suc unit) hs all.2) i in omega (arith, later)))

rises-apart : (low : ℕ) (xs : List Entry) → Rises low xs → Apart xs
rises-apart low [] r = tt
rises-apart low (x ∷ xs) r = (Each-by (Differs x) xs (λ e i. let above = Each-in _ xs e (rises-above x.stamp xs r.1) i in λ s u. absurd (omega (arith, above, s))), rises-apart x.stamp xs r.1)

apart-append : (xs ys : List Entry) → Apart xs → Apart ys → Each (λ (x : Entry). Each (Differs x) ys) xs → Apart (xs ++ ys)
apart-append [] ys a b d = b
apart-append (x ∷ xs) ys a b d = (Each-append (Differs x) xs ys a.0 d.0, apart-append xs ys a.1 b d.1)

pub from-apart : (unit : ℕ) (hs : List (List Entry)) → AreFrom unit hs → Apart (all_of hs)
from-apart unit [] all = tt
from-apart unit (h ∷ hs) all =
    apart-append h (all_of hs) (rises-apart 0 h all.1) (from-apart (suc unit) hs all.2)
    (Each-by _ h (λ x i. Each-by (Differs x) (all_of hs) (λ y j.
    let here = Each-in _ h x all.0 i in let there = Each-in _ (all_of hs) y (above-from (suc unit) hs all.2) j in
    λ s u. absurd (omega (arith, here, there, u)))))

from-of : (unit : ℕ) (hs : List (List Entry)) → ((k : ℕ) → Each (λ (e : Entry). e.unit ≡ unit + k) (of_unit hs k)) → ((k : ℕ) → Rises 0 (of_unit hs k)) → AreFrom unit hs
from-of unit [] own rising = tt
from-of unit (h ∷ hs) own rising =
    let first : unit + 0 ≡ unit = omega arith in (
      subst (λ u. Each (λ (e : Entry). e.unit ≡ u) h) first (own 0),
      rising 0,
      from-of (suc unit) hs
          (λ k. let next : unit + suc k ≡ suc unit + k = omega arith in subst (λ u. Each (λ (e : Entry). e.unit ≡ u) (of_unit hs k)) next (own (suc k)))
          (λ k. rising (suc k)),
    )

pub histories-from : (config : Configuration) (hs : List (List Entry)) → AreHistories config hs → AreFrom 0 hs
histories-from config hs are =
    from-of 0 hs (λ k. let e : k ≡ 0 + k = omega arith in subst (λ u. Each (λ (x : Entry). x.unit ≡ u) (of_unit hs k)) e (are.own k)) are.rising

-- an entry of all the lists stands in its unit's
pub in-unit : (unit : ℕ) (hs : List (List Entry)) (e : Entry) → AreFrom unit hs → In e (all_of hs) → (k : ℕ) × (e.unit ≡ unit + k) × In e (of_unit hs k)
in-unit unit [] e all i = absurd i
in-unit unit (h ∷ hs) e all i = go (In-split h (all_of hs) e i) (λ j. in-unit (suc unit) hs e all.2 j)
  where
    go : In e h ⊎ In e (all_of hs) → (In e (all_of hs) → (k : ℕ) × (e.unit ≡ suc unit + k) × In e (of_unit hs k)) → (k : ℕ) × (e.unit ≡ unit + k) × In e (of_unit (h ∷ hs) k)
    go (inl j) rest = let here = Each-in _ h e all.0 j in (0, omega (arith, here), j)
    go (inr j) rest = let r = rest j in (suc r.0, omega (arith, r.1), r.2)

-- and one of the merged lists
pub unit-stands : (hs : List (List Entry)) (e : Entry) → AreFrom 0 hs → In e (merged hs) → In e (of_unit hs e.unit)
unit-stands hs e from i =
    let at = in-unit 0 hs e from (merged-in hs e i) in
    let same : at.0 ≡ e.unit = omega (arith, at.1) in
    subst (λ u. In e (of_unit hs u)) same at.2

-- ---- the merged history

module _ (config : Configuration) (hs : List (List Entry)) (are : AreHistories config hs) where
  pub sorted : Sorted (merged hs)
  sorted = merged-sorted hs (from-apart 0 hs (histories-from config hs are))

  -- an entry of the merged history stands in its unit's history
  pub stands-on : (e : Entry) → In e (merged hs) → In e (of_unit hs e.unit)
  stands-on e i = unit-stands hs e (histories-from config hs are) i

  on-sound : (unit : ℕ) (e : Entry) → In e (on unit (merged hs)) → In e (of_unit hs unit)
  on-sound unit e i =
      let test = filter-passes (λ (o : Entry). o.unit == unit) (merged hs) e i in
      let same : e.unit ≡ unit = grind (arith, nat_tests) in
      subst (λ u. In e (of_unit hs u)) same (stands-on e (In-filter (λ (o : Entry). o.unit == unit) (merged hs) e i))

  on-whole : (unit : ℕ) (e : Entry) → In e (of_unit hs unit) → In e (on unit (merged hs))
  on-whole unit e i =
      let same = Each-in _ (of_unit hs unit) e (are.own unit) i in
      let test : (e.unit == unit) ≡ true = grind (arith, nat_tests) in
      in-filter (λ (o : Entry). o.unit == unit) (merged hs) e (in-merged hs e (all-in hs unit e i)) test

  -- its part on a unit is the unit's history
  pub part : (unit : ℕ) → on unit (merged hs) ≡ of_unit hs unit
  part unit =
      sorted-same (on unit (merged hs)) (of_unit hs unit) (sorted-filter (λ (o : Entry). o.unit == unit) (merged hs) sorted)
      (rises-sorted 0 (of_unit hs unit) (are.rising unit)) (on-sound unit) (on-whole unit)

  module _ (joined : List Joined) (passes : AreJoined config joined) (made : AreMadeBy hs joined) where
    by-sound : (actor : Actor) (e : Entry) → In e (by actor (merged hs)) → In e (own_of actor joined)
    by-sound actor e i =
        let there = In-filter (λ (o : Entry). same_actor o.actor actor) (merged hs) e i in
        let same = same_actor-is e.actor actor (filter-passes (λ (o : Entry). same_actor o.actor actor) (merged hs) e i) in
        subst (λ a. In e (own_of a joined)) same (Each-in (λ (o : Entry). In o (own_of o.actor joined)) (of_unit hs e.unit) e (made.made e.unit) (stands-on e there))

    by-whole : (actor : Actor) (e : Entry) → In e (own_of actor joined) → In e (by actor (merged hs))
    by-whole actor e i =
        let same : e.actor ≡ actor = Each-in (λ (o : Entry). o.actor ≡ actor) (own_of actor joined) e (passes actor).mine i in
        let stands = Each-in (λ (o : Entry). In o (of_unit hs o.unit)) (own_of actor joined) e (made.stands actor) i in
        in-filter (λ (o : Entry). same_actor o.actor actor) (merged hs) e (in-merged hs e (all-in hs e.unit e stands)) (ap (λ a. same_actor a actor) same ∙ same_actor-self actor)

    -- the entries of an actor are what its joined passes made
    pub of_actor : (actor : Actor) → by actor (merged hs) ≡ own_of actor joined
    of_actor actor =
        sorted-same (by actor (merged hs)) (own_of actor joined) (sorted-filter (λ (o : Entry). same_actor o.actor actor) (merged hs) sorted)
        (rises-sorted 0 (own_of actor joined) (passes actor).rising) (by-sound actor) (by-whole actor)

    own-in : (e : Entry) → In e (merged hs) → In e (own_of e.actor joined)
    own-in e i = Each-in (λ (o : Entry). In o (own_of o.actor joined)) (of_unit hs e.unit) e (made.made e.unit) (stands-on e i)

    asked : (e : Entry) → In e (merged hs) → IsAsked config e
    asked e i = Each-in (IsAsked config) (own_of e.actor joined) e (passes e.actor).asked (own-in e i)

    abbrev Rising : Entry → Entry → Type 0
    Rising a b = a.unit ≡ b.unit → a.stamp < b.stamp

    rising-pairs : (xs : List Entry) → Sorted xs → Pairs Rising xs
    rising-pairs [] s = tt
    rising-pairs (x ∷ xs) s = (Each-by (Rising x) xs (λ e i. go e (Each-in (Before x) xs e s.0 i)), rising-pairs xs s.1)
      where
        go : (e : Entry) → Before x e → Rising x e
        go e (inl less) = λ u. less
        go e (inr same) = λ u. let high = same.1 in absurd (omega (arith, high, u))

    abbrev OtherStamp : Entry → Entry → Type 0
    OtherStamp a b = IsTrue (same_actor a.actor b.actor) → a.stamp ≢ b.stamp

    other-stamp : (a b : Entry) → In a (merged hs) → In b (merged hs) → Before a b → OtherStamp a b
    other-stamp a b i j before = λ actors stamps.
        let same = same_actor-is a.actor b.actor actors in
        let mine : In a (own_of b.actor joined) = subst (λ x. In a (own_of x joined)) same (own-in a i) in
        let one = rises-one 0 (own_of b.actor joined) a b (passes b.actor).rising mine (own-in b j) stamps in
        let twice : Before b b = subst (λ x. Before x b) one before in
        before-not b b twice twice

    stamp-pairs : (xs : List Entry) → Sorted xs → ((e : Entry) → In e xs → In e (merged hs)) → Pairs OtherStamp xs
    stamp-pairs [] s all = tt
    stamp-pairs (x ∷ xs) s all =
        (Each-by (OtherStamp x) xs (λ e i. other-stamp x e (all x (inl refl)) (all e (inr i)) (Each-in (Before x) xs e s.0 i)), stamp-pairs xs s.1 (λ e i. all e (inr i)))

    abbrev RisesBy : Entry → Entry → Type 0
    RisesBy a b = a.actor ≡ b.actor → a.stamp < b.stamp

    rises-by : (a b : Entry) → In a (merged hs) → In b (merged hs) → Before a b → RisesBy a b
    rises-by a b i j (inl less) = λ actors. less
    rises-by a b i j (inr same) = λ actors. absurd (other-stamp a b i j (inr same) (ap (λ x. same_actor x b.actor) actors ∙ same_actor-self b.actor) same.0)

    by-pairs : (xs : List Entry) → Sorted xs → ((e : Entry) → In e xs → In e (merged hs)) → Pairs RisesBy xs
    by-pairs [] s all = tt
    by-pairs (x ∷ xs) s all =
        (Each-by (RisesBy x) xs (λ e i. rises-by x e (all x (inl refl)) (all e (inr i)) (Each-in (Before x) xs e s.0 i)), by-pairs xs s.1 (λ e i. all e (inr i)))

    -- the entries of one actor have rising stamps
    pub apart : RiseByActor (merged hs)
    apart = Pairs-all RisesBy (merged hs) (by-pairs (merged hs) sorted (λ e i. i))

    counted : (e : Entry) → In e (merged hs) → e.seq ≡ count_by (comes_before e) (merged hs)
    counted e i =
        let own = passes e.actor in
        numbered-lower 0 0 (own_of e.actor joined) e own.rising own.numbered (own-in e i)
        ∙ zero-add _ ∙ ap (lower e.stamp) (sym (of_actor e.actor))
        ∙ sym (count-filter (λ (o : Entry). same_actor o.actor e.actor) (λ (o : Entry). nat_lt o.stamp e.stamp) (merged hs))

    pub legal : IsLegal config (merged hs)
    legal = record {
      configured = Each-all _ (merged hs) (Each-by _ (merged hs) (λ e i. (asked e i).configured));
      limits = Each-all _ (merged hs) (Each-by _ (merged hs) (λ e i. (asked e i).limits));
      asked = Each-all _ (merged hs) (Each-by _ (merged hs) (λ e i. (asked e i).asked));
      rising = Pairs-all Rising (merged hs) (rising-pairs (merged hs) sorted);
      apart = Pairs-all OtherStamp (merged hs) (stamp-pairs (merged hs) sorted (λ e i. i));
      counted = Each-all _ (merged hs) (Each-by _ (merged hs) counted);
    }

    pub whole : IsWhole config hs joined (merged hs)
    whole = record { legal = legal; sorted = sorted-pairs (merged hs) sorted; apart = apart; parts = part; actors = of_actor }
