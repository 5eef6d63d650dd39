-- Which passes are out
use Rattle.std.proofs.Common.{◌≡◌, ℕ, zero, suc, ◌+◌, ◌<◌, List, [], ◌∷◌, ◌++◌, length, refl, sym, ap, ◌∙◌, subst, arith, true, false, append_assoc}
use Rattle.std.specs.Prelude.{slice_get, Some, ◌==◌, if◌then◌else◌}
use Rattle.std.proofs.lemmas.Bool.Decides.{nat_tests}
use Rattle.atomic_table.specs.Seated.{TableId}
use Rattle.atomic_table.specs.Table.{Me}
use Rattle.cm_history.specs.declared.act.Entry.{Entry}
use Rattle.merged_history.specs.declared.known.Ticket.{Ticket}
use Rattle.merged_history.specs.declared.known.JoinedPass.{JoinedPass}
use Rattle.merged_history.specs.declared.known.Known.{Known}
use Rattle.merged_history.specs.declared.known.Known.TheVariants.{Root}
use Rattle.merged_history.specs.Seats.{IsJoined}
use Rattle.merged_history.specs.inner.Rule.{IsOut, AreJoined, joined_of, made_in, joined_in, joined_as, ticket_in, root_state, is_joined, left_of, IsRootSeat}
use Rattle.merged_history.proofs.Lists.{get-low}
use Rattle.merged_history.proofs.Registering.{are-more}

left-push : (from : ℕ) (made : List Ticket) (joined : List JoinedPass) (t : Ticket) → is_joined (from + length made) joined ≡ false → left_of from (made ++ t ∷ []) joined ≡ left_of from made joined ++ t ∷ []
left-push from [] joined t out = let e : from + 0 ≡ from = omega arith in let here : is_joined from joined ≡ false = ap (λ n. is_joined n joined) (sym e) ∙ out in rw here refl
left-push from (h ∷ hs) joined t out =
    let e : suc from + length hs ≡ from + suc (length hs) = omega arith in
    ap (λ l. (if is_joined from joined then [] else h ∷ []) ++ l) (left-push (suc from) hs joined t (ap (λ n. is_joined n joined) e ∙ out))
    ∙ sym (append_assoc (if is_joined from joined then [] else h ∷ []) (left_of (suc from) hs joined) (t ∷ []))

-- a list with one element taken out
pub record IsLess (before after : List Ticket) (t : Ticket) : Type 0 where
  pub front : List Ticket
  pub back : List Ticket
  pub before_is : before ≡ front ++ t ∷ back
  pub after_is : after ≡ front ++ back

not-joined : (n : ℕ) (joined : List JoinedPass) → IsOut n joined → is_joined n joined ≡ false
not-joined n [] out = refl
not-joined n (p ∷ ps) out =
    let other = out.0 in
    let test : (p.number == n) ≡ false = grind (arith, nat_tests) in
    let rest = not-joined n ps out.1 in
    rw (test, rest) refl

-- numbers above the one that is joined see no difference
left-same : (from : ℕ) (made : List Ticket) (joined : List JoinedPass) (p : JoinedPass) → p.number < from → left_of from made (p ∷ joined) ≡ left_of from made joined
left-same from [] joined p low = refl
left-same from (h ∷ hs) joined p low =
    let test : (p.number == from) ≡ false = grind (arith, nat_tests) in
    let rest = left-same (suc from) hs joined p (omega (arith, low)) in
    rw (test, rest) refl

left-less : (from k : ℕ) (made : List Ticket) (joined : List JoinedPass) (p : JoinedPass) → p.number ≡ from + k → slice_get made k ≡ Some p.ticket → is_joined p.number joined ≡ false → IsLess (left_of from made joined) (left_of from made (p ∷ joined)) p.ticket
left-less from k [] joined p here is out = cc
left-less from zero (h ∷ hs) joined p here is out =
    let number : p.number ≡ from = omega (arith, here) in
    let same : h ≡ p.ticket = cc in
    let test : (p.number == from) ≡ true = grind (arith, nat_tests) in
    let not_yet : is_joined from joined ≡ false = ap (λ n. is_joined n joined) (sym number) ∙ out in
    let rest = left-same (suc from) hs joined p (omega (arith, number)) in
    record {
      front = [];
      back = left_of (suc from) hs joined;
      before_is = rw (not_yet, same) refl;
      after_is = rw (test, rest) refl;
    }
left-less from (suc k) (h ∷ hs) joined p here is out =
    let next = left-less (suc from) k hs joined p (omega (arith, here)) is out in
    let test : (p.number == from) ≡ false = grind (arith, nat_tests) in
    let mine = if is_joined from joined then [] else h ∷ [] in
    record {
      front = mine ++ next.front;
      back = next.back;
      before_is = ap (λ l. mine ++ l) next.before_is ∙ sym (append_assoc mine next.front (p.ticket ∷ next.back));
      after_is = (rw test refl) ∙ ap (λ l. mine ++ l) next.after_is ∙ sym (append_assoc mine next.front next.back);
    }

-- ---- what the two calls of the register do to the passes that are out

none-after : (made : List Ticket) (joined : List JoinedPass) → AreJoined made joined → is_joined (length made) joined ≡ false
none-after made [] are = refl
none-after made (p ∷ ps) are =
    let low = get-low made p.number p.ticket are.0 in
    let test : (p.number == length made) ≡ false = grind (arith, nat_tests) in
    let rest = none-after made ps are.2 in
    rw (test, rest) refl

pub one-more : (made : List Ticket) (joined : List JoinedPass) (t : Ticket) → AreJoined made joined → left_of 0 (made ++ t ∷ []) joined ≡ left_of 0 made joined ++ t ∷ []
one-more made joined t are = let e : 0 + length made ≡ length made = omega arith in left-push 0 made joined t (ap (λ n. is_joined n joined) e ∙ none-after made joined are)

pub one-less : (made : List Ticket) (joined : List JoinedPass) (p : JoinedPass) → AreJoined made (p ∷ joined) → IsLess (left_of 0 made joined) (left_of 0 made (p ∷ joined)) p.ticket
one-less made joined p are = left-less 0 p.number made joined p (omega arith) are.0 (not-joined p.number joined are.1)

-- ---- what contracts see of the root's seat

pub was-split : (table after_table : TableId) (root after : Me ℕ Known) (t : Ticket) → AreJoined (made_in root.0) (joined_in root.0) → after_table ≡ table
    → after ≡ (Root (made_in root.0 ++ t ∷ []) (joined_in root.0), [])
    → root_state after_table after.0 ≡ record (root_state table root.0) { out = (root_state table root.0).out ++ t ∷ [] }
was-split table after_table root after t are same is =
    ap (λ x. root_state x after.0) same ∙ ap (λ (m : Me ℕ Known). root_state table m.0) is
    ∙ ap (λ o. record { register = table; out = o; joined = joined_of (joined_in root.0) }) (one-more (made_in root.0) (joined_in root.0) t are)

pub split-seat : (root after : Me ℕ Known) (t : Ticket) → AreJoined (made_in root.0) (joined_in root.0) → after ≡ (Root (made_in root.0 ++ t ∷ []) (joined_in root.0), []) → IsRootSeat after
split-seat root after t are is =
    let P : Me ℕ Known → Type 0 = λ m. IsRootSeat m in
    subst P (sym is) record { is = refl; are = are-more (made_in root.0) (t ∷ []) (joined_in root.0) are }

pub was-joined : (table after_table : TableId) (root after : Me ℕ Known) (pass : Known) (own : List Entry) → after_table ≡ table
    → after ≡ (Root (made_in root.0) (joined_as pass own ∷ joined_in root.0), []) → AreJoined (made_in root.0) (joined_as pass own ∷ joined_in root.0)
    → IsJoined (root_state table root.0) (root_state after_table after.0) (ticket_in pass) own
was-joined table after_table root after pass own same is are =
    let less = one-less (made_in root.0) (joined_in root.0) (joined_as pass own) are in
    record {
      front = less.front;
      back = less.back;
      was_out = less.before_is;
      root = ap (λ x. root_state x after.0) same ∙ ap (λ (m : Me ℕ Known). root_state table m.0) is
          ∙ ap (λ o. record { register = table; out = o; joined = joined_of (joined_as pass own ∷ joined_in root.0) }) less.after_is;
    }
