-- A pass makes an entry, or sees more of a unit
use Rattle.std.proofs.Common.{◌<◌, ◌≡◌, ℕ, zero, suc, ◌+◌, List, [], ◌∷◌, ◌++◌, length, refl, ap, sym, ◌∙◌, subst, arith, true, inl, inr, append_assoc, append-nil}
use Rattle.std.specs.Prelude.{◌⊎◌, slice_set}
use Rattle.std.proofs.lemmas.List.{length-set}
use Rattle.std.proofs.lemmas.Bool.Decides.{nat_tests}
use mathlib.Core.List.{IsPrefix}
use Rattle.cm_base.specs.Configuration.{Configuration}
use Rattle.cm_history.specs.declared.act.Act.{Act}
use Rattle.cm_history.specs.declared.act.Actor.{Actor}
use Rattle.cm_history.specs.declared.act.Actor.TheVariants.{Nexus, Pump}
use Rattle.cm_history.specs.declared.act.Entry.{Entry}
use Rattle.cm_history.specs.Legal.{may_ask}
use Rattle.cm_history.proofs.PublicLaws.{Each-in, Each-by, Each-append, In, Each}
use Rattle.merged_history.proofs.Members.{In-append, In-append_right, In-split}
use Rattle.merged_history.specs.Merged.{all_of, merged}
use Rattle.merged_history.specs.Own.{IsBelow, IsAsked, IsOwn}
use Rattle.merged_history.specs.Passes.{of_unit, AreFrom}
use Rattle.merged_history.specs.declared.known.Ticket.{Ticket}
use Rattle.merged_history.specs.PassRules.{IsNew, AreSeen, IsPass, AreLonger}
use Rattle.merged_history.proofs.Sorted.{Before, Sorted, merged-sorted, merged-in, in-merged, sorted-same}
use Rattle.merged_history.proofs.OfActor.{rises-append, own-append}
use Rattle.merged_history.proofs.Whole.{from-apart, all-in}
use Rattle.merged_history.proofs.Given.{MayMake}

-- ---- one more entry in one of the lists

pub push-from : (from : ℕ) (hs : List (List Entry)) (unit : ℕ) (e : Entry) → AreFrom from hs → e.unit ≡ from + unit → 0 < e.stamp → Each (λ (x : Entry). x.stamp < e.stamp) (of_unit hs unit) → AreFrom from (slice_set hs unit (of_unit hs unit ++ e ∷ []))
push-from from [] unit e all is some above = tt
push-from from (h ∷ hs) zero e all is some above = (
  Each-append _ h (e ∷ []) all.0 (omega (arith, is), tt),
  rises-append 0 h (e ∷ []) all.1 (some, tt) (Each-by _ h (λ x i. (Each-in _ h x above i, tt))),
  all.2,
)
push-from from (h ∷ hs) (suc unit) e all is some above = (all.0, all.1, push-from (suc from) hs unit e all.2 (omega (arith, is)) some above)

pushed-in : (hs : List (List Entry)) (unit : ℕ) (e y : Entry) → unit < length hs → In y (all_of (slice_set hs unit (of_unit hs unit ++ e ∷ []))) → In y (all_of hs) ⊎ (e ≡ y)
pushed-in [] unit e y low i = absurd i
pushed-in (h ∷ hs) zero e y low i = go (In-split (h ++ e ∷ []) (all_of hs) y i)
  where
    last : In y h ⊎ In y (e ∷ []) → In y (h ++ all_of hs) ⊎ (e ≡ y)
    last (inl j) = inl (In-append h (all_of hs) y j)
    last (inr (inl same)) = inr same
    last (inr (inr none)) = absurd none

    go : In y (h ++ e ∷ []) ⊎ In y (all_of hs) → In y (h ++ all_of hs) ⊎ (e ≡ y)
    go (inl j) = last (In-split h (e ∷ []) y j)
    go (inr j) = inl (In-append_right h (all_of hs) y j)
pushed-in (h ∷ hs) (suc unit) e y low i = go (In-split h (all_of (slice_set hs unit (of_unit hs unit ++ e ∷ []))) y i) (λ j. pushed-in hs unit e y (omega arith) j)
  where
    more : In y (all_of hs) ⊎ (e ≡ y) → In y (h ++ all_of hs) ⊎ (e ≡ y)
    more (inl j) = inl (In-append_right h (all_of hs) y j)
    more (inr same) = inr same

    go : In y h ⊎ In y (all_of (slice_set hs unit (of_unit hs unit ++ e ∷ []))) → (In y (all_of (slice_set hs unit (of_unit hs unit ++ e ∷ []))) → In y (all_of hs) ⊎ (e ≡ y)) → In y (h ++ all_of hs) ⊎ (e ≡ y)
    go (inl j) rest = inl (In-append h (all_of hs) y j)
    go (inr j) rest = more (rest j)

in-pushed : (hs : List (List Entry)) (unit : ℕ) (e y : Entry) → unit < length hs → In y (all_of hs) ⊎ (e ≡ y) → In y (all_of (slice_set hs unit (of_unit hs unit ++ e ∷ [])))
in-pushed [] unit e y low i = absurd (omega arith)
in-pushed (h ∷ hs) zero e y low (inl i) = go (In-split h (all_of hs) y i)
  where
    go : In y h ⊎ In y (all_of hs) → In y ((h ++ e ∷ []) ++ all_of hs)
    go (inl j) = In-append (h ++ e ∷ []) (all_of hs) y (In-append h (e ∷ []) y j)
    go (inr j) = In-append_right (h ++ e ∷ []) (all_of hs) y j
in-pushed (h ∷ hs) zero e y low (inr same) = In-append (h ++ e ∷ []) (all_of hs) y (In-append_right h (e ∷ []) y (inl same))
in-pushed (h ∷ hs) (suc unit) e y low (inl i) = go (In-split h (all_of hs) y i) (λ j. in-pushed hs unit e y (omega arith) (inl j))
  where
    go : In y h ⊎ In y (all_of hs) → (In y (all_of hs) → In y (all_of (slice_set hs unit (of_unit hs unit ++ e ∷ [])))) → In y (h ++ all_of (slice_set hs unit (of_unit hs unit ++ e ∷ [])))
    go (inl j) rest = In-append h _ y j
    go (inr j) rest = In-append_right h _ y (rest j)
in-pushed (h ∷ hs) (suc unit) e y low (inr same) = In-append_right h _ y (in-pushed hs unit e y (omega arith) (inr same))

sorted-push : (xs : List Entry) (e : Entry) → Sorted xs → Each (λ (x : Entry). x.stamp < e.stamp) xs → Sorted (xs ++ e ∷ [])
sorted-push [] e s above = (tt, tt)
sorted-push (x ∷ xs) e s above = (Each-append (Before x) xs (e ∷ []) s.0 (inl above.0, tt), sorted-push xs e s.1 above.1)

-- an entry with the highest stamp is the last of the merged ones
pub merged-push : (hs : List (List Entry)) (unit : ℕ) (e : Entry) → AreFrom 0 hs → unit < length hs → e.unit ≡ unit → 0 < e.stamp → Each (λ (x : Entry). x.stamp < e.stamp) (merged hs)
    → Each (λ (x : Entry). x.stamp < e.stamp) (of_unit hs unit) → merged (slice_set hs unit (of_unit hs unit ++ e ∷ [])) ≡ merged hs ++ e ∷ []
merged-push hs unit e all low is some above here =
    sorted-same _ _ (merged-sorted (slice_set hs unit (of_unit hs unit ++ e ∷ [])) (from-apart 0 (slice_set hs unit (of_unit hs unit ++ e ∷ [])) (push-from 0 hs unit e all (omega (arith, is)) some here))) (sorted-push (merged hs) e (merged-sorted hs (from-apart 0 hs all)) above)
    (λ y i. go y (pushed-in hs unit e y low (merged-in (slice_set hs unit (of_unit hs unit ++ e ∷ [])) y i)))
    (λ y i. in-merged (slice_set hs unit (of_unit hs unit ++ e ∷ [])) y (in-pushed hs unit e y low (back y (In-split (merged hs) (e ∷ []) y i))))
  where
    go : (y : Entry) → In y (all_of hs) ⊎ (e ≡ y) → In y (merged hs ++ e ∷ [])
    go y (inl i) = In-append (merged hs) (e ∷ []) y (in-merged hs y i)
    go y (inr same) = In-append_right (merged hs) (e ∷ []) y (inl same)

    back : (y : Entry) → In y (merged hs) ⊎ In y (e ∷ []) → In y (all_of hs) ⊎ (e ≡ y)
    back y (inl i) = inl (merged-in hs y i)
    back y (inr (inl same)) = inr same
    back y (inr (inr none)) = absurd none

-- ---- what is seen grows

pub in-longer : (xs ys : List Entry) (e : Entry) → IsPrefix xs ys → In e xs → In e ys
in-longer xs ys e pre i = subst (In e) pre.1 (In-append xs pre.0 e i)

pub longer-set : (seen : List (List Entry)) (unit : ℕ) (after : List Entry) → IsPrefix (of_unit seen unit) after → AreLonger seen (slice_set seen unit after)
longer-set [] unit after pre k = ([], refl)
longer-set (s ∷ ss) zero after pre zero = pre
longer-set (s ∷ ss) zero after pre (suc k) = let l = of_unit ss k in ([], append-nil l)
longer-set (s ∷ ss) (suc unit) after pre zero = ([], append-nil s)
longer-set (s ∷ ss) (suc unit) after pre (suc k) = longer-set ss unit after pre k

pub seen-longer : (seen after : List (List Entry)) (xs : List Entry) → AreLonger seen after → AreSeen seen xs → AreSeen after xs
seen-longer seen after xs longer all = Each-by _ xs (λ e i. in-longer (of_unit seen e.unit) (of_unit after e.unit) e (longer e.unit) (Each-in (λ (x : Entry). In x (of_unit seen x.unit)) xs e all i))

pub set-at : (seen : List (List Entry)) (unit : ℕ) (after : List Entry) → unit < length seen → of_unit (slice_set seen unit after) unit ≡ after
set-at [] unit after low = absurd (omega arith)
set-at (s ∷ ss) zero after low = refl
set-at (s ∷ ss) (suc unit) after low = set-at ss unit after (omega arith)

-- a pass that sees more of a unit
pub pass-sees : (config : Configuration) (t : Ticket) (owns seen after : List (List Entry)) → IsPass config t owns seen → AreLonger seen after → length after ≡ length seen → IsPass config t owns after
pass-sees config t owns seen after is longer size = record {
  parts = is.parts;
  units = is.units ∙ sym size;
  own = is.own;
  stands = seen-longer seen after (merged owns) longer is.stands;
  earlier = seen-longer seen after t.before longer is.earlier;
  mine = is.mine;
  asked = is.asked;
  new = is.new;
  below = is.below;
}

-- ---- one more entry of a pass

pub pump-unit : (unit u : ℕ) (act : Act) → may_ask unit (Pump u) act ≡ true → u ≡ unit
pump-unit unit u Act.Pump e = grind (arith, nat_tests)
pump-unit unit u _ e = cc

-- two entries of one pump are on one unit
one-unit : (config : Configuration) (u : ℕ) (a b : Entry) → a.actor ≡ Pump u → b.actor ≡ Pump u → IsAsked config a → IsAsked config b → a.unit ≡ b.unit
one-unit config u a b p q c d =
    let l = pump-unit a.unit u a.act (ap (λ x. may_ask a.unit x a.act) (sym p) ∙ c.asked) in
    let r = pump-unit b.unit u b.act (ap (λ x. may_ask b.unit x b.act) (sym q) ∙ d.asked) in
    sym l ∙ r

-- the entries of its actor's earlier passes have lower stamps
above-earlier : (config : Configuration) (actor : Actor) (before : List Entry) (seen : List (List Entry)) (unit : ℕ) (history : List Entry) (e : Entry)
    → IsNew actor before → Each (λ (x : Entry). x.actor ≡ actor) before → Each (IsAsked config) before → AreSeen seen before → IsPrefix (of_unit seen unit) history
    → e.unit ≡ unit → e.actor ≡ actor → IsAsked config e → Each (λ (x : Entry). x.stamp < e.stamp) history → Each (λ (x : Entry). x.stamp < e.stamp) before
above-earlier config (Nexus n) before seen unit history e new mine asked earlier pre on by may above = rw new tt
above-earlier config (Pump u) before seen unit history e new mine asked earlier pre on by may above =
    Each-by _ before (λ b i.
    let same = one-unit config u b e (Each-in _ before b mine i) by (Each-in (IsAsked config) before b asked i) may in
    let there = Each-in (λ (x : Entry). In x (of_unit seen x.unit)) before b earlier i in
    let here : In b (of_unit seen unit) = subst (λ k. In b (of_unit seen k)) (same ∙ on) there in
    Each-in _ history b above (in-longer (of_unit seen unit) history b pre here))

pub pass-makes : (config : Configuration) (t : Ticket) (owns seen : List (List Entry)) (unit : ℕ) (history : List Entry) (e : Entry)
    → IsPass config t owns seen → unit < length owns → IsPrefix (of_unit seen unit) history → MayMake config t (merged owns) unit history e
    → (merged (slice_set owns unit (of_unit owns unit ++ e ∷ [])) ≡ merged owns ++ e ∷ [])
    × IsPass config t (slice_set owns unit (of_unit owns unit ++ e ∷ [])) (slice_set seen unit (history ++ e ∷ []))
pass-makes config t owns seen unit history e is low pre may = (
  pushed,
  record {
    parts = push-from 0 owns unit e is.parts (let u = may.unit_is in omega (arith, u)) may.some part;
    units = length-set owns unit _ ∙ is.units ∙ sym (length-set seen unit _);
    own = rw pushed (own-append config t.actor (length t.before) (merged owns) (e ∷ []) is.own one later);
    stands = rw pushed (Each-append _ (merged owns) (e ∷ []) (seen-longer seen _ (merged owns) longer is.stands) (here, tt));
    earlier = seen-longer seen _ t.before longer is.earlier;
    mine = is.mine;
    asked = is.asked;
    new = is.new;
    below = rw pushed (Each-by _ t.before (λ b i. Each-append _ (merged owns) (e ∷ []) (Each-in _ t.before b is.below i) (Each-in _ t.before b first i, tt)));
  },
)
  where
    part : Each (λ (x : Entry). x.stamp < e.stamp) (of_unit owns unit)
    part = Each-by _ (of_unit owns unit) (λ x i. Each-in _ (merged owns) x may.later (in-merged owns x (all-in owns unit x i)))

    pushed : merged (slice_set owns unit (of_unit owns unit ++ e ∷ [])) ≡ merged owns ++ e ∷ []
    pushed = merged-push owns unit e is.parts low may.unit_is may.some may.later part

    one : IsOwn config t.actor (length t.before + length (merged owns)) (e ∷ [])
    one = record { mine = (may.actor_is, tt); asked = (may.asked, tt); rising = (may.some, tt); numbered = (may.seq_is, tt) }

    later : IsBelow (merged owns) (e ∷ [])
    later = Each-by _ (merged owns) (λ x i. (Each-in _ (merged owns) x may.later i, tt))

    further : IsPrefix (of_unit seen unit) (history ++ e ∷ [])
    further = (pre.0 ++ e ∷ [], sym (append_assoc (of_unit seen unit) pre.0 (e ∷ [])) ∙ ap (λ l. l ++ e ∷ []) pre.1)

    longer : AreLonger seen (slice_set seen unit (history ++ e ∷ []))
    longer = longer-set seen unit (history ++ e ∷ []) further

    here : In e (of_unit (slice_set seen unit (history ++ e ∷ [])) e.unit)
    here =
        let size = is.units in
        let at = set-at seen unit (history ++ e ∷ []) (omega (arith, low, size)) in
        subst (λ k. In e (of_unit (slice_set seen unit (history ++ e ∷ [])) k)) (sym may.unit_is) (subst (In e) (sym at) (In-append_right history (e ∷ []) e (inl refl)))

    first : Each (λ (x : Entry). x.stamp < e.stamp) t.before
    first = above-earlier config t.actor t.before seen unit history e is.new is.mine is.asked is.earlier pre may.unit_is may.actor_is may.asked may.above
