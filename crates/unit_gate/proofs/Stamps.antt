-- The stamp of one more entry is above all
use Rattle.std.proofs.Common.{◌<◌, ◌≤◌, ◌≡◌, ℕ, ◌+◌, List, [], ◌∷◌, ◌++◌, length, refl, ap, sym, ◌∙◌, subst, arith, true}
use Rattle.std.specs.Prelude.{◌==◌, fold}
use Rattle.std.proofs.lemmas.Bool.Decides.{nat_tests}
use Rattle.cm_base.specs.Configuration.{Configuration}
use Rattle.cm_history.specs.declared.act.Entry.{Entry}
use Rattle.cm_history.specs.Deeds.{Deed, last_stamp}
use Rattle.cm_history.specs.History.{on, one_more, past_of}
use Rattle.cm_history.proofs.PublicLaws.{Each, Each-by, In, filter-passes}
use Rattle.merged_history.specs.Own.{Rises}

rises-folded : (config : Configuration) (unit : ℕ) (xs : List Entry) (e : Entry) (acc : List Deed) → Rises (last_stamp acc) xs → last_stamp (fold (one_more config unit) acc xs) < e.stamp → Rises (last_stamp acc) (xs ++ e ∷ [])
rises-folded config unit [] e acc r low = (low, tt)
rises-folded config unit (x ∷ xs) e acc r low = (r.0, rises-folded config unit xs e (one_more config unit acc x) r.1 low)

-- one entry more, with a stamp above the last
pub rises-push : (config : Configuration) (unit : ℕ) (h : List Entry) (e : Entry) → on unit h ≡ h → Rises 0 h → last_stamp (past_of config unit h) < e.stamp → Rises 0 (h ++ e ∷ [])
rises-push config unit h e own r low = rises-folded config unit h e [] r (subst (λ l. last_stamp (fold (one_more config unit) [] l) < e.stamp) own low)

long-folded : (config : Configuration) (unit : ℕ) (xs : List Entry) (acc : List Deed) → Rises (last_stamp acc) xs → last_stamp acc + length xs ≤ last_stamp (fold (one_more config unit) acc xs)
long-folded config unit [] acc r = omega arith
long-folded config unit (x ∷ xs) acc r = let rest = long-folded config unit xs (one_more config unit acc x) r.1 in let first = r.0 in omega (arith, rest, first)

-- no more entries than the last stamp says
pub history-long : (config : Configuration) (unit : ℕ) (h : List Entry) → on unit h ≡ h → Rises 0 h → length h ≤ last_stamp (past_of config unit h)
history-long config unit h own r = subst (λ l. length h ≤ last_stamp (fold (one_more config unit) [] l)) (sym own) (let long = long-folded config unit h [] r in omega (arith, long))

last-folded : (config : Configuration) (unit : ℕ) (xs : List Entry) (e : Entry) (acc : List Deed) → last_stamp (fold (one_more config unit) acc (xs ++ e ∷ [])) ≡ e.stamp
last-folded config unit [] e acc = refl
last-folded config unit (x ∷ xs) e acc = last-folded config unit xs e (one_more config unit acc x)

-- the last stamp is that of the entry that was added
pub last-push : (config : Configuration) (unit : ℕ) (h : List Entry) (e : Entry) → on unit (h ++ e ∷ []) ≡ h ++ e ∷ [] → last_stamp (past_of config unit (h ++ e ∷ [])) ≡ e.stamp
last-push config unit h e own = ap (λ l. last_stamp (fold (one_more config unit) [] l)) own ∙ last-folded config unit h e []

-- a list that has a unit's entries alone
pub all-own : (unit : ℕ) (h : List Entry) → on unit h ≡ h → Each (λ (e : Entry). e.unit ≡ unit) h
all-own unit h own = Each-by _ h (λ x i. let test : (x.unit == unit) ≡ true = filter-passes (λ (e : Entry). e.unit == unit) h x (subst (λ l. In x l) (sym own) i) in grind (arith, nat_tests))
