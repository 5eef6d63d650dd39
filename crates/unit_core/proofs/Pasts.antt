-- The past of a unit, with one more entry
use Rattle.std.proofs.Common.{◌≡◌, ℕ, ◌+◌, List, [], ◌∷◌, ◌++◌, length, refl, ap, ◌∙◌, arith, true}
use Rattle.std.specs.Prelude.{◌==◌, fold}
use Rattle.std.proofs.lemmas.Bool.Decides.{nat_tests}
use Rattle.std.proofs.lemmas.List.Sums.{fold-append}
use Rattle.std.proofs.lemmas.List.Elements.{filter-append}
use Rattle.cm_base.specs.Configuration.{Configuration}
use Rattle.cm_history.specs.declared.act.Entry.{Entry}
use Rattle.cm_history.specs.Deeds.{Deed}
use Rattle.cm_history.specs.Answers.{deed}
use Rattle.cm_history.specs.History.{on, one_more, past_of}

on-push : (unit : ℕ) (entries : List Entry) (e : Entry) → e.unit ≡ unit → on unit (entries ++ e ∷ []) ≡ on unit entries ++ e ∷ []
on-push unit entries e here =
    let mine : (e.unit == unit) ≡ true = grind (arith, nat_tests) in
    filter-append (λ (o : Entry). o.unit == unit) entries (e ∷ []) ∙ rw mine refl

-- one more entry of the unit is one more deed
pub past_of-push : (config : Configuration) (unit : ℕ) (entries : List Entry) (e : Entry) → e.unit ≡ unit
    → past_of config unit (entries ++ e ∷ []) ≡ deed config unit (past_of config unit entries) e ∷ past_of config unit entries
past_of-push config unit entries e here =
    ap (fold (one_more config unit) []) (on-push unit entries e here) ∙ fold-append (one_more config unit) [] (on unit entries) (e ∷ [])

pub own-push : (unit : ℕ) (entries : List Entry) (e : Entry) → e.unit ≡ unit → on unit entries ≡ entries → on unit (entries ++ e ∷ []) ≡ entries ++ e ∷ []
own-push unit entries e here own = on-push unit entries e here ∙ ap (λ l. l ++ e ∷ []) own

length-fold : (config : Configuration) (unit : ℕ) (past : List Deed) (entries : List Entry) → length (fold (one_more config unit) past entries) ≡ length past + length entries
length-fold config unit past [] = omega arith
length-fold config unit past (e ∷ entries) = let more = length-fold config unit (one_more config unit past e) entries in omega arith

-- as many deeds as entries
pub length-past : (config : Configuration) (unit : ℕ) (entries : List Entry) → on unit entries ≡ entries → length (past_of config unit entries) ≡ length entries
length-past config unit entries own = length-fold config unit [] (on unit entries) ∙ (let e : 0 + length (on unit entries) ≡ length (on unit entries) = omega arith in e ∙ ap length own)
