-- The stamp of one more entry is above all
use Rattle.std.proofs.Common.{◌<◌, ◌≤◌, ◌≡◌, ℕ, ◌+◌, List, [], ◌∷◌, ◌++◌, length, refl, ap, ◌∙◌, arith, true}
use Rattle.std.specs.Prelude.{◌==◌, fold, max}
use Rattle.std.proofs.lemmas.Bool.Decides.{nat_tests}
use Rattle.cm_base.specs.Configuration.{Configuration}
use Rattle.cm_history.specs.declared.act.Entry.{Entry}
use Rattle.cm_history.specs.Deeds.{Deed, last_stamp}
use Rattle.cm_history.specs.History.{on, one_more, past_of}
use Rattle.cm_history.proofs.PublicLaws.{Each, Each-in, Each-by}
use Rattle.merged_history.specs.Own.{Rises}
use Rattle.merged_history.specs.PassRules.{IsHistory}
use Rattle.nexus.specs.Worlds.{last_stamp_of}

on-own : (unit : ℕ) (xs : List Entry) → Each (λ (e : Entry). e.unit ≡ unit) xs → on unit xs ≡ xs
on-own unit [] all = refl
on-own unit (x ∷ xs) all =
    let same = all.0 in
    let test : (x.unit == unit) ≡ true = grind (arith, nat_tests) in
    let rest = on-own unit xs all.1 in
    rw (test, rest) refl

-- no entry has a stamp above the last
last-fold : (config : Configuration) (unit : ℕ) (xs : List Entry) (acc : List Deed) → Rises (last_stamp acc) xs
    → (last_stamp acc ≤ last_stamp (fold (one_more config unit) acc xs)) × Each (λ (x : Entry). x.stamp ≤ last_stamp (fold (one_more config unit) acc xs)) xs
last-fold config unit [] acc r = (omega arith, tt)
last-fold config unit (x ∷ xs) acc r =
    let rest = last-fold config unit xs (one_more config unit acc x) r.1 in
    let first = r.0 in
    let low = rest.0 in
    (omega (arith, first, low), (low, rest.1))

last-above : (config : Configuration) (unit : ℕ) (entries : List Entry) → IsHistory unit entries → Each (λ (x : Entry). x.stamp ≤ last_stamp (past_of config unit entries)) entries
last-above config unit entries is =
    let own = on-own unit entries is.own in
    rw own (last-fold config unit entries [] is.rising).1

pub stamp-above : (config : Configuration) (unit : ℕ) (entries : List Entry) (stamp : ℕ) → IsHistory unit entries → Each (λ (x : Entry). x.stamp < max stamp (last_stamp (past_of config unit entries)) + 1) entries
stamp-above config unit entries stamp is = Each-by _ entries (λ x i. let low = Each-in _ entries x (last-above config unit entries is) i in omega (arith, low))

-- ---- the last stamp of a list

pub last_stamp_of-push : (xs : List Entry) (e : Entry) → last_stamp_of (xs ++ e ∷ []) ≡ e.stamp
last_stamp_of-push [] e = refl
last_stamp_of-push (x ∷ []) e = refl
last_stamp_of-push (x ∷ y ∷ ys) e = last_stamp_of-push (y ∷ ys) e

pub rises-last : (low : ℕ) (xs : List Entry) → Rises low xs → Each (λ (x : Entry). x.stamp ≤ last_stamp_of xs) xs
rises-last low [] r = tt
rises-last low (x ∷ []) r = (omega arith, tt)
rises-last low (x ∷ y ∷ ys) r =
    let rest = rises-last x.stamp (y ∷ ys) r.1 in
    let first = rest.0 in
    let up = r.1.0 in
    (omega (arith, first, up), rest)

-- an entry's stamp is above the number of those before it
pub rises-long : (low : ℕ) (xs : List Entry) (e : Entry) → Rises low (xs ++ e ∷ []) → low + length xs < e.stamp
rises-long low [] e r = let first = r.0 in omega (arith, first)
rises-long low (x ∷ xs) e r = let first = r.0 in let rest = rises-long x.stamp xs e r.1 in omega (arith, first, rest)
