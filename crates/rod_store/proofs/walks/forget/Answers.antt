use Rattle.std.proofs.Common.{◌≡◌, ◌∷◌, ◌∙◌, List, [], ℕ, Bool, Bor, drop, slice_get, refl, sym, ap, rules, eqb, true, false, arith}
use Rattle.std.specs.Prelude.{◌==◌, ◌||◌, not, filter, Option, Some, None, cond}
use Rattle.std.specs.List.{list_any}
use Rattle.std.specs.Option.{option_copied, option_eq}
use Rattle.std.proofs.lemmas.Bool.Decides.{nat_tests}
use Rattle.std.proofs.lemmas.Fn.{filter_same}
use Rattle.rod_store.specs.inner.Store.{AreApart}
use Rattle.rod_store.proofs.walks.forget.Goals as goal

others-stay : (serial : ℕ) (serials : List ℕ) → list_any (λ other. other == serial) serials ≡ false → filter (λ other. not (other == serial)) serials ≡ serials
others-stay serial [] none = refl
others-stay serial (x ∷ xs) none = go (x == serial) none (others-stay serial xs)
  where
    go : (b : Bool) → (b || list_any (λ other. other == serial) xs) ≡ false
        → (list_any (λ other. other == serial) xs ≡ false → filter (λ other. not (other == serial)) xs ≡ xs)
        → cond (not b) (x ∷ filter (λ other. not (other == serial)) xs) (filter (λ other. not (other == serial)) xs) ≡ x ∷ xs
    go true e later = cc
    go false e later = ap (λ l. x ∷ l) (later e)

first-goes : (serial : ℕ) (serials : List ℕ) → AreApart serials → slice_get serials 0 ≡ Some serial → drop 1 serials ≡ filter (λ other. not (other == serial)) serials
first-goes serial [] apart first = cc
first-goes serial (x ∷ xs) apart first =
    let same : x ≡ serial = cc in
    let here : (x == serial) ≡ true = grind (arith, nat_tests) in
    rw here (sym (others-stay serial xs (ap (λ s. list_any (λ other. other == s) xs) (sym same) ∙ apart.0)))

told : (o : Option (Bor ℕ)) (b : Bor ℕ) → option_eq (λ x y. eqb x.now y.now) o (Some b) ≡ true → option_copied o ≡ Some b.now
told None b e = cc
told (Some a) b e = let same : a.now ≡ b.now = grind (arith, nat_tests) in ap Some same

pub returns-then-eq-clause-serials : goal.returns-then-eq-clause-serials
returns-then-eq-clause-serials c =
    let first = sym c.first.ensures.value ∙ told c.first.result _ (sym c.eq.ensures ∙ c.if-eq.true) in
    c.remove.ensures.items ∙ first-goes c.args.serial c.args.live_serials.now.items c.requires (ap (λ l. slice_get l 0) (sym c.deref.ensures.value) ∙ first)

pub returns-else-eq-clause-serials : goal.returns-else-eq-clause-serials
returns-else-eq-clause-serials c = filter_same _ (λ x. not (eqb x c.args.serial)) _ (λ x b f' k. search rules) _ _ c.retain.ensures.filtered
