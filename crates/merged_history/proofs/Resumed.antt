-- The merged history of a resumed world
use Rattle.std.proofs.Common.{◌<◌, ◌≡◌, ℕ, zero, suc, List, [], ◌∷◌, length, take, drop, refl, ap, sym, subst, ◌∙◌, arith, inl, inr}
use Rattle.std.specs.Prelude.{◌⊎◌, ◌≢◌, slice_index, All, AllPairs, Contains, IsTrue}
use Rattle.std.proofs.lemmas.List.{take-append-drop}
use Rattle.cm_base.specs.Configuration.{Configuration}
use Rattle.cm_history.specs.declared.act.Actor.{Actor}
use Rattle.cm_history.specs.declared.act.Entry.{Entry}
use Rattle.cm_history.specs.Deeds.{same_actor}
use Rattle.cm_history.specs.History.{on}
use Rattle.cm_history.specs.Legal.{may_ask}
use Rattle.cm_history.specs.Limits.{within_limits}
use Rattle.cm_history.proofs.PublicLaws.{Each, Each-in, Each-by, Each-all, In, In-filter, filter-passes, same_actor-is, same_actor-self}
use Rattle.merged_history.proofs.Members.{in-contains, In-append_right, In-split, Pairs, Pairs-all, in-filter}
use Rattle.merged_history.proofs.OfActor.{rises-one, rises-sorted}
use Rattle.merged_history.specs.Merged.{all_of, fronts, merged, rests}
use Rattle.merged_history.specs.Resumed.{IsNewTo, IsOrdered, IsResumed}
use Rattle.merged_history.specs.Own.{by, IsAsked}
use Rattle.merged_history.specs.Seats.{Joined, own_of}
use Rattle.merged_history.specs.Passes.{AreJoined, of_unit}
use Rattle.merged_history.proofs.Sorted.{Before, Sorted, before-not, in-merged, sorted-filter, sorted-pairs, sorted-same}
use Rattle.merged_history.proofs.Whole.{all-in, of_actor, part, sorted, stands-on}
use Rattle.merged_history.proofs.Steps.{rises-drop, each-drop}
use Rattle.merged_history.proofs.Given.{AreHistories}

-- the first entries of each unit were there before, and each later one was made by a joined pass
pub record AreMadeAfter (config : Configuration) (openings : List ℕ) (histories : List (List Entry)) (joined : List Joined) : Type 0 where
  pub stands : (actor : Actor) → Each (λ (e : Entry). In e (of_unit (rests openings histories) e.unit)) (own_of actor joined)
  pub made : (unit : ℕ) → Each (λ (e : Entry). In e (own_of e.actor joined)) (of_unit (rests openings histories) unit)
  pub asked : (unit : ℕ) → Each (IsAsked config) (of_unit histories unit)

rests-long : (at : List ℕ) (hs : List (List Entry)) → length (rests at hs) ≡ length hs
rests-long [] hs = refl
rests-long (n ∷ ns) [] = refl
rests-long (n ∷ ns) (h ∷ hs) = ap suc (rests-long ns hs)

rest-of : (at : List ℕ) (hs : List (List Entry)) (unit : ℕ) → of_unit (rests at hs) unit ≡ drop (slice_index at unit) (of_unit hs unit)
rest-of [] hs zero = refl
rest-of [] hs (suc unit) = refl
rest-of (n ∷ ns) [] zero = none n
  where
    none : (k : ℕ) → [] ≡ drop {A = Entry} k []
    none zero = refl
    none (suc k) = refl
rest-of (n ∷ ns) [] (suc unit) = none (slice_index ns unit)
  where
    none : (k : ℕ) → [] ≡ drop {A = Entry} k []
    none zero = refl
    none (suc k) = refl
rest-of (n ∷ ns) (h ∷ hs) zero = refl
rest-of (n ∷ ns) (h ∷ hs) (suc unit) = rest-of ns hs unit

front-of : (at : List ℕ) (hs : List (List Entry)) (unit : ℕ) → of_unit (fronts at hs) unit ≡ take (slice_index at unit) (of_unit hs unit)
front-of [] hs zero = refl
front-of [] hs (suc unit) = refl
front-of (n ∷ ns) [] zero = none n
  where
    none : (k : ℕ) → [] ≡ take {A = Entry} k []
    none zero = refl
    none (suc k) = refl
front-of (n ∷ ns) [] (suc unit) = none (slice_index ns unit)
  where
    none : (k : ℕ) → [] ≡ take {A = Entry} k []
    none zero = refl
    none (suc k) = refl
front-of (n ∷ ns) (h ∷ hs) zero = refl
front-of (n ∷ ns) (h ∷ hs) (suc unit) = front-of ns hs unit

-- an entry is one of the first ones of its unit, or of the later ones
first-or-rest : (at : List ℕ) (hs : List (List Entry)) (unit : ℕ) (e : Entry) → In e (of_unit hs unit)
    → In e (all_of (fronts at hs)) ⊎ In e (of_unit (rests at hs) unit)
first-or-rest at hs unit e i =
    let n = slice_index at unit in
    let here = of_unit hs unit in
    go (In-split (take n here) (drop n here) e (subst (In e) (sym (take-append-drop n here)) i))
  where
    go : In e (take (slice_index at unit) (of_unit hs unit)) ⊎ In e (drop (slice_index at unit) (of_unit hs unit))
        → In e (all_of (fronts at hs)) ⊎ In e (of_unit (rests at hs) unit)
    go (inl j) = inl (all-in (fronts at hs) unit e (subst (In e) (sym (front-of at hs unit)) j))
    go (inr j) = inr (subst (In e) (sym (rest-of at hs unit)) j)

-- a later one is one of all
rest-in : (at : List ℕ) (hs : List (List Entry)) (unit : ℕ) (e : Entry) → In e (of_unit (rests at hs) unit) → In e (of_unit hs unit)
rest-in at hs unit e i =
    let n = slice_index at unit in
    let here = of_unit hs unit in
    subst (In e) (take-append-drop n here) (In-append_right (take n here) (drop n here) e (subst (In e) (rest-of at hs unit) i))

pub rests-histories : (config : Configuration) (at : List ℕ) (hs : List (List Entry)) → AreHistories config hs → AreHistories config (rests at hs)
rests-histories config at hs are = record {
  units = rests-long at hs ∙ are.units;
  own = λ unit. rw (rest-of at hs unit) (each-drop (λ (e : Entry). e.unit ≡ unit) (slice_index at unit) (of_unit hs unit) (are.own unit));
  rising = λ unit. rw (rest-of at hs unit) (rises-drop 0 (slice_index at unit) (of_unit hs unit) (are.rising unit));
}

rising-pairs : (xs : List Entry) → Sorted xs → Pairs (λ (a b : Entry). a.unit ≡ b.unit → a.stamp < b.stamp) xs
rising-pairs [] s = tt
rising-pairs (x ∷ xs) s = (Each-by _ xs (λ e i. go e (Each-in (Before x) xs e s.0 i)), rising-pairs xs s.1)
  where
    go : (e : Entry) → Before x e → x.unit ≡ e.unit → x.stamp < e.stamp
    go e (inl less) u = less
    go e (inr same) u = let high = same.1 in absurd (omega (arith, high, u))

module _ (config : Configuration) (openings : List ℕ) (hs : List (List Entry)) (joined : List Joined) (are : AreHistories config hs) (passes : AreJoined config joined)
    (made : AreMadeAfter config openings hs joined) where
  asked : (e : Entry) → In e (merged hs) → IsAsked config e
  asked e i = Each-in (IsAsked config) (of_unit hs e.unit) e (made.asked e.unit) (stands-on config hs are e i)

  made-by : (e : Entry) → In e (merged hs) → In e (all_of (fronts openings hs)) ⊎ In e (own_of e.actor joined)
  made-by e i = go (first-or-rest openings hs e.unit e (stands-on config hs are e i))
    where
      go : In e (all_of (fronts openings hs)) ⊎ In e (of_unit (rests openings hs) e.unit) → In e (all_of (fronts openings hs)) ⊎ In e (own_of e.actor joined)
      go (inl j) = inl j
      go (inr j) = inr (Each-in (λ (o : Entry). In o (own_of o.actor joined)) (of_unit (rests openings hs) e.unit) e (made.made e.unit) j)

  abbrev first : List Entry
  first = all_of (fronts openings hs)

  abbrev Behind : Entry → Entry → Type 0
  Behind a b = a.actor ≡ b.actor → Contains first a ⊎ Contains first b ⊎ (a.stamp < b.stamp)

  -- two entries of one actor, of which neither is one of the first
  behind : (a b : Entry) → In a (merged hs) → In b (merged hs) → Before a b → Behind a b
  behind a b i j before = λ actors. go (made-by a i) (made-by b j) before actors
    where
      go : In a first ⊎ In a (own_of a.actor joined) → In b first ⊎ In b (own_of b.actor joined) → Before a b → a.actor ≡ b.actor → Contains first a ⊎ Contains first b ⊎ (a.stamp < b.stamp)
      go (inl x) y before actors = inl (in-contains first a x)
      go (inr x) (inl y) before actors = inr (inl (in-contains first b y))
      go (inr x) (inr y) (inl less) actors = inr (inr less)
      go (inr x) (inr y) (inr same) actors =
          let mine : In a (own_of b.actor joined) = subst (λ z. In a (own_of z joined)) actors x in
          let one = rises-one 0 (own_of b.actor joined) a b (passes b.actor).rising mine y same.0 in
          let twice : Before b b = subst (λ z. Before z b) one (inr same) in
          absurd (before-not b b twice twice)

  behind-pairs : (xs : List Entry) → Sorted xs → ((e : Entry) → In e xs → In e (merged hs)) → Pairs Behind xs
  behind-pairs [] s all = tt
  behind-pairs (x ∷ xs) s all =
      (Each-by (Behind x) xs (λ e i. behind x e (all x (inl refl)) (all e (inr i)) (Each-in (Before x) xs e s.0 i)), behind-pairs xs s.1 (λ e i. all e (inr i)))

  module _ (actor : Actor) (new : IsNewTo (all_of (fronts openings hs)) actor) where
    new-sound : (e : Entry) → In e (by actor (merged hs)) → In e (own_of actor joined)
    new-sound e i = go (made-by e (In-filter (λ (o : Entry). same_actor o.actor actor) (merged hs) e i))
      where
        same : e.actor ≡ actor
        same = same_actor-is e.actor actor (filter-passes (λ (o : Entry). same_actor o.actor actor) (merged hs) e i)

        go : In e (all_of (fronts openings hs)) ⊎ In e (own_of e.actor joined) → In e (own_of actor joined)
        go (inl j) = absurd (Each-in (λ (o : Entry). o.actor ≢ actor) (all_of (fronts openings hs)) e new j same)
        go (inr j) = subst (λ a. In e (own_of a joined)) same j

    new-whole : (e : Entry) → In e (own_of actor joined) → In e (by actor (merged hs))
    new-whole e i =
        let same : e.actor ≡ actor = Each-in (λ (o : Entry). o.actor ≡ actor) (own_of actor joined) e (passes actor).mine i in
        let stands = Each-in (λ (o : Entry). In o (of_unit (rests openings hs) o.unit)) (own_of actor joined) e (made.stands actor) i in
        in-filter (λ (o : Entry). same_actor o.actor actor) (merged hs) e (in-merged hs e (all-in hs e.unit e (rest-in openings hs e.unit e stands)))
        (ap (λ a. same_actor a actor) same ∙ same_actor-self actor)

    new-actor : by actor (merged hs) ≡ own_of actor joined
    new-actor =
        sorted-same (by actor (merged hs)) (own_of actor joined) (sorted-filter (λ (o : Entry). same_actor o.actor actor) (merged hs) (sorted config hs are))
        (rises-sorted 0 (own_of actor joined) (passes actor).rising) new-sound new-whole

  pub resumed : IsResumed config openings hs joined
  resumed = record {
    ordered = record {
      configured = Each-all _ (merged hs) (Each-by _ (merged hs) (λ e i. (asked e i).configured));
      limits = Each-all _ (merged hs) (Each-by _ (merged hs) (λ e i. (asked e i).limits));
      asked = Each-all _ (merged hs) (Each-by _ (merged hs) (λ e i. (asked e i).asked));
      rising = Pairs-all _ (merged hs) (rising-pairs (merged hs) (sorted config hs are));
    };
    sorted = sorted-pairs (merged hs) (sorted config hs are);
    apart = Pairs-all Behind (merged hs) (behind-pairs (merged hs) (sorted config hs are) (λ e i. i));
    parts = part config hs are;
    actors = of_actor config (rests openings hs) (rests-histories config openings hs are) joined passes record { stands = made.stands; made = made.made };
    rising = are.rising;
    made = Each-by (λ (e : Entry). In e (all_of (fronts openings hs)) ⊎ In e (own_of e.actor joined)) (merged hs) made-by;
    new = new-actor;
  }
