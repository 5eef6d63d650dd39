-- Lemmas on lists
use Rattle.std.proofs.Common.{◌≤◌, ◌≡◌, ℕ, zero, suc, ◌+◌, List, [], ◌∷◌, ◌++◌, length, take, drop, refl, ap, sym, ◌∙◌, arith, append-nil}
use Rattle.std.specs.Prelude.{Option, Some, None}
use Rattle.std.specs.List.{last_or}
use Rattle.std.proofs.lemmas.List.{length-drop}
use Rattle.cm_history.specs.declared.act.Entry.{Entry}
use Rattle.recorder.specs.Recording.{with_more, FirstFits}

-- the first n of a list that goes on behind them
pub take-front : {X : Type 0} (n : ℕ) (xs ys : List X) → n ≤ length xs → take n (xs ++ ys) ≡ take n xs
take-front zero xs ys low = refl
take-front (suc n) [] ys low = absurd (omega (arith, low))
take-front (suc n) (x ∷ xs) ys low = ap (λ l. x ∷ l) (take-front n xs ys (omega (arith, low)))

pub last-pushed : {X : Type 0} (d : Option X) (xs : List X) (x : X) → last_or d (xs ++ x ∷ []) ≡ Some x
last-pushed d [] x = refl
last-pushed d (y ∷ ys) x = last-pushed (Some y) ys x

-- a list is as long as its first n and what is left
pub length-parts : {X : Type 0} (n : ℕ) (xs left : List X) → drop n xs ≡ left → n ≤ length xs → n + length left ≡ length xs
length-parts n xs left is low = let long = ap length (sym is) ∙ length-drop n xs in omega (arith, long, low)

pub more-none : (told : Option (List Entry)) → with_more told [] ≡ told
more-none None = refl
more-none (Some es) = ap Some (append-nil es)

-- the first entry stays the first
pub first-pushed : (fits : Entry → Type 0) (es : List Entry) (e : Entry) → FirstFits fits es → FirstFits fits (es ++ e ∷ [])
first-pushed fits [] e all = all e
first-pushed fits (x ∷ es) e first = first
