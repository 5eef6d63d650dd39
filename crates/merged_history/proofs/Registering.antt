-- The steps of a register keep its rule
use Rattle.std.proofs.Common.{◌≡◌, ℕ, zero, suc, ◌<◌, ◌≤◌, List, [], ◌∷◌, ◌++◌, length, refl, sym, ap, ◌∙◌, subst, arith, inl, inr, slice_set, length-append}
use Rattle.std.specs.Prelude.{◌⊎◌, slice_get, Some}
use Rattle.std.proofs.lemmas.List.{length-set}
use mathlib.Core.Option.{none, some}
use lib.ListN.{get_elem?}
use Rattle.atomic_table.specs.Table.{State, Me, keeps, step, Allows, Splits, Joins}
use Rattle.atomic_table.proofs.Lists.{at_set, set_again}
use Rattle.cm_history.specs.declared.act.Actor.{Actor}
use Rattle.cm_history.specs.declared.act.Entry.{Entry}
use Rattle.merged_history.specs.declared.known.Ticket.{Ticket}
use Rattle.merged_history.specs.declared.known.JoinedPass.{JoinedPass}
use Rattle.merged_history.specs.declared.known.Known.{Known}
use Rattle.merged_history.specs.declared.known.Known.TheVariants.{Root, Pass, Spent}
use Rattle.merged_history.specs.inner.Rule.{ticket_by, IsOut, AreJoined, ArePasses, IsKept, Loads}
use Rattle.merged_history.proofs.Lists.{get-low, get-front, get-last, snoc-at}

-- ---- what the rule says of a seat

pub kept-same : (s t : State ℕ Known) → t.views ≡ s.views → IsKept s → IsKept t
kept-same s t same kept = record { made = kept.made; joined = kept.joined; rest = kept.rest; views = same ∙ kept.views; passes = kept.passes; are = kept.are }

pub record IsFirst (id : ℕ) (made kept_made : List Ticket) (joined kept_joined : List JoinedPass) : Type 0 where
  pub first : id ≡ 0
  pub made_is : made ≡ kept_made
  pub joined_is : joined ≡ kept_joined

root-first : (s : State ℕ Known) (kept : IsKept s) (id : ℕ) (made : List Ticket) (joined : List JoinedPass) → get_elem? s.views id ≡ some (Root made joined) → IsFirst id made kept.made joined kept.joined
root-first s kept id made joined at = go id (ap (λ l. get_elem? l id) (sym kept.views) ∙ at)
  where
    go : (i : ℕ) → get_elem? (Root kept.made kept.joined ∷ kept.rest) i ≡ some (Root made joined) → IsFirst i made kept.made joined kept.joined
    go zero e = record { first = refl; made_is = cc; joined_is = cc }
    go (suc i) e = absurd (kept.passes.no_root i made joined e)

-- ---- a pass is made

out-above : (made : List Ticket) (joined : List JoinedPass) (n : ℕ) → length made ≤ n → AreJoined made joined → IsOut n joined
out-above made [] n high are = tt
out-above made (b ∷ bs) n high are = ((λ same. let low = get-low made b.number b.ticket are.0 in absurd (omega (arith, low, high, same))), out-above made bs n high are.2)

pub are-more : (made more : List Ticket) (joined : List JoinedPass) → AreJoined made joined → AreJoined (made ++ more) joined
are-more made more [] are = tt
are-more made more (b ∷ bs) are = (get-front made more b.number b.ticket are.0, are.1, are-more made more bs are.2)

passes-more : (made : List Ticket) (joined : List JoinedPass) (rest : List Known) (t : Ticket) → AreJoined made joined → ArePasses made joined rest → ArePasses (made ++ t ∷ []) joined (rest ++ Pass (length made) t ∷ [])
passes-more made joined rest t are is = record {
  size = let a = length-append rest (Pass (length made) t ∷ []) in let b = length-append made (t ∷ []) in let c = is.size in omega (arith, a, b, c);
  passes = λ i n u e. go i n u (snoc-at rest (Pass (length made) t) (Pass n u) i e);
  no_root = λ i m j e. none i m j (snoc-at rest (Pass (length made) t) (Root m j) i e);
}
  where
    go : (i n : ℕ) (u : Ticket) → (get_elem? rest i ≡ some (Pass n u)) ⊎ ((i ≡ length rest) × (Pass (length made) t ≡ Pass n u)) → (n ≡ i) × (slice_get (made ++ t ∷ []) i ≡ Some u) × IsOut i joined
    go i n u (inl old) = let o = is.passes i n u old in (o.0, get-front made (t ∷ []) i u o.1, o.2)
    go i n u (inr new) =
        let number : length made ≡ n = cc (new.1) in
        let same : t ≡ u = cc (new.1) in
        let here : i ≡ length made = new.0 ∙ is.size in (
          sym number ∙ sym here,
          ap (λ k. slice_get (made ++ t ∷ []) k) here ∙ get-last made t ∙ ap Some same,
          out-above made joined i (omega (arith, here)) are,
        )

    none : (i : ℕ) (h : List Ticket) (b : List JoinedPass) → (get_elem? rest i ≡ some (Root h b)) ⊎ ((i ≡ length rest) × (Pass (length made) t ≡ Root h b)) → ⊥
    none i h b (inl old) = is.no_root i h b old
    none i h b (inr new) = cc (new.1)

pub splits : (actor : Actor) (id : ℕ) (made : List Ticket) (joined : List JoinedPass) → Splits IsKept id (Root made joined) (Root (made ++ ticket_by actor joined ∷ []) joined) (Pass (length made) (ticket_by actor joined))
splits actor id made joined s kept at =
    let d = root-first s kept id made joined at in
    let passes = subst (λ h. ArePasses h joined kept.rest) (sym d.made_is) (subst (λ b. ArePasses kept.made b kept.rest) (sym d.joined_is) kept.passes) in
    let are = subst (λ h. AreJoined h joined) (sym d.made_is) (subst (AreJoined kept.made) (sym d.joined_is) kept.are) in
    record {
      made = made ++ ticket_by actor joined ∷ [];
      joined = joined;
      rest = kept.rest ++ Pass (length made) (ticket_by actor joined) ∷ [];
      views = ap (λ i. slice_set s.views i (Root (made ++ ticket_by actor joined ∷ []) joined) ++ Pass (length made) (ticket_by actor joined) ∷ []) d.first
          ∙ ap (λ l. slice_set l 0 (Root (made ++ ticket_by actor joined ∷ []) joined) ++ Pass (length made) (ticket_by actor joined) ∷ []) kept.views;
      passes = passes-more made joined kept.rest (ticket_by actor joined) are passes;
      are = are-more made (ticket_by actor joined ∷ []) joined are;
    }

-- ---- a pass is joined

passes-less : (made : List Ticket) (joined : List JoinedPass) (rest : List Known) (i n : ℕ) (t : Ticket) (own : List Entry) → n ≡ i → ArePasses made joined rest → ArePasses made (record { number = n; ticket = t; own = own } ∷ joined) (slice_set rest i Spent)
passes-less made joined rest i n t own here is = record {
  size = length-set rest i Spent ∙ is.size;
  passes = λ k m u e. elim (at_set rest i k Spent (Pass m u) e) [
    | inl new ↦ let no = new.1 in cc
    | inr old ↦ let o = is.passes k m u old.1 in let other = old.0 in (o.0, o.1, ((λ same. other (sym same ∙ here)), o.2))
  ];
  no_root = λ k h b e. elim (at_set rest i k Spent (Root h b) e) [
    | inl new ↦ let no = new.1 in cc
    | inr old ↦ is.no_root k h b old.1
  ];
}

pub joins : (own : List Entry) (id : ℕ) (made : List Ticket) (joined : List JoinedPass) (other n : ℕ) (t : Ticket)
    → Joins IsKept id (Root made joined) other (Pass n t) (Root made (record { number = n; ticket = t; own = own } ∷ joined)) Spent
joins own id made joined other n t s kept at ne there =
    kept-same _ _ (ap (λ l. slice_set l other Spent) set) (go other (ap (λ l. get_elem? l other) (sym set) ∙ there))
  where
    set : slice_set s.views id (Root made (record { number = n; ticket = t; own = own } ∷ joined)) ≡ Root made (record { number = n; ticket = t; own = own } ∷ joined) ∷ kept.rest
    set =
        ap (λ i. slice_set s.views i (Root made (record { number = n; ticket = t; own = own } ∷ joined))) (root-first s kept id made joined at).first
        ∙ ap (λ l. slice_set l 0 (Root made (record { number = n; ticket = t; own = own } ∷ joined))) kept.views

    go : (o : ℕ) → get_elem? (Root made (record { number = n; ticket = t; own = own } ∷ joined) ∷ kept.rest) o ≡ some (Pass n t)
        → IsKept record { words = s.words; homes = s.homes; views = slice_set (Root made (record { number = n; ticket = t; own = own } ∷ joined) ∷ kept.rest) o Spent }
    go zero here = cc
    go (suc i) here =
        let d = root-first s kept id made joined at in
        let passes = subst (λ h. ArePasses h joined kept.rest) (sym d.made_is) (subst (λ b. ArePasses kept.made b kept.rest) (sym d.joined_is) kept.passes) in
        let are = subst (λ h. AreJoined h joined) (sym d.made_is) (subst (AreJoined kept.made) (sym d.joined_is) kept.are) in
        let pass = passes.passes i n t here in
        record {
          made = made;
          joined = record { number = n; ticket = t; own = own } ∷ joined;
          rest = slice_set kept.rest i Spent;
          views = refl;
          passes = passes-less made joined kept.rest i n t own pass.0 passes;
          are = (ap (slice_get made) pass.0 ∙ pass.1, subst (λ k. IsOut k joined) (sym pass.0) pass.2, are);
        }

-- ---- the root loads

pub loads : (id slots : ℕ) (made : List Ticket) (joined : List JoinedPass) → Allows IsKept slots id (Root made joined, []) 0 (λ n. n) (Loads (step slots 0 0 0 none) (Root made joined, []))
loads id slots made joined s kept len at small =
    let d = root-first s kept id made joined at in
    let are = subst (λ h. AreJoined h joined) (sym d.made_is) (subst (AreJoined kept.made) (sym d.joined_is) kept.are) in
    (Root made joined, keeps, tt, kept-same s _ (set_again s.views id (Root made joined) at) kept, (refl, are))

pub loads-at : (id slots : ℕ) (me : Me ℕ Known) (made : List Ticket) (joined : List JoinedPass) → me ≡ (Root made joined, []) → Allows IsKept slots id me 0 (λ n. n) (Loads (step slots 0 0 0 none) me)
loads-at id slots me made joined is =
    let P : Me ℕ Known → Type 0 = λ m. Allows IsKept slots id m 0 (λ n. n) (Loads (step slots 0 0 0 none) m) in
    subst P (sym is) (loads id slots made joined)
