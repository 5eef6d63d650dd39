-- Members of a list
use Rattle.std.proofs.Common.{◌≡◌, ℕ, zero, suc, List, [], ◌∷◌, ◌++◌, drop, inl, inr, ◌<◌, arith, ap, sym, ◌∙◌, refl, length, length-append, append_assoc, subst}
use Rattle.cm_history.specs.declared.act.Entry.{Entry}
use Rattle.cm_history.proofs.PublicLaws.{Each, In}
use Rattle.merged_history.specs.Own.{Rises}

pub In-right : (xs ys : List Entry) (e : Entry) → In e ys → In e (xs ++ ys)
In-right [] ys e i = i
In-right (x ∷ xs) ys e i = inr (In-right xs ys e i)

pub each-drop : (P : Entry → Type 0) (n : ℕ) (xs : List Entry) → Each P xs → Each P (drop n xs)
each-drop P zero xs all = all
each-drop P (suc n) [] all = tt
each-drop P (suc n) (x ∷ xs) all = each-drop P n xs all.1

rises-lower : (low high : ℕ) (xs : List Entry) → low < high → Rises high xs → Rises low xs
rises-lower low high [] less r = tt
rises-lower low high (x ∷ xs) less r = let first = r.0 in (omega (arith, first, less), r.1)

pub rises-drop : (low n : ℕ) (xs : List Entry) → Rises low xs → Rises low (drop n xs)
rises-drop low zero xs r = r
rises-drop low (suc n) [] r = tt
rises-drop low (suc n) (x ∷ xs) r = rises-lower low x.stamp (drop n xs) r.0 (rises-drop x.stamp n xs r.1)
