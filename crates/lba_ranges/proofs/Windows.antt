-- Windows on lists: `left` elements after the first `skip`
use Rattle.std.proofs.Common.{◌≡◌, ℕ, zero, suc, ◌+◌, ◌-◌, ◌≤◌, List, [], ◌∷◌, ◌++◌, length, take, drop, refl, ap, sym, ◌∙◌, arith, append_assoc, length-drop, length-take-le, length-append}
use Rattle.std.specs.Prelude.{min, slice_range}
use Rattle.std.proofs.lemmas.List.{take_min, drop_min}
use Rattle.std.proofs.lemmas.Grind.{common_steps}

pub drop-append-all : {X : Type 0} (xs ys : List X) (k : ℕ) → drop k (xs ++ ys) ≡ drop k xs ++ drop (k - length xs) ys
drop-append-all [] ys k = grind (arith, common_steps)
drop-append-all (x ∷ xs) ys zero = grind (arith, common_steps)
drop-append-all (x ∷ xs) ys (suc k) = drop-append-all xs ys k ∙ grind (arith, common_steps)

take-append-all : {X : Type 0} (xs ys : List X) (k : ℕ) → take k (xs ++ ys) ≡ take k xs ++ take (k - length xs) ys
take-append-all [] ys k = grind (arith, common_steps)
take-append-all (x ∷ xs) ys zero = grind (arith, common_steps)
take-append-all (x ∷ xs) ys (suc k) = ap (λ l. x ∷ l) (take-append-all xs ys k) ∙ grind (arith, common_steps)

front-window : {X : Type 0} (xs : List X) (n skip left : ℕ) → length xs ≡ n → take left (drop skip xs) ≡ take (min left (n - min skip n)) (drop (min skip n) xs)
front-window xs n skip left len =
    let long : length (drop skip xs) ≡ n - min skip n = omega (arith, length-drop skip xs) in
    rw (← len, drop_min skip xs, len, ← long) (sym (take_min left (drop skip xs)))

-- a window over two lists is its part of the first, and then its part of the second
window-append : {X : Type 0} (xs ys : List X) (n skip left : ℕ) → length xs ≡ n
    → let before = min skip n in let taken = min left (n - before) in
    take left (drop skip (xs ++ ys)) ≡ slice_range xs before (before + taken) ++ take (left - taken) (drop (skip - before) ys)
window-append xs ys n skip left len =
    let before = min skip n in
    let taken = min left (n - before) in
    let skips : skip - length xs ≡ skip - before = omega arith in
    let dropped : length (drop skip xs) ≡ n - before = omega (arith, length-drop skip xs) in
    let leaves : left - length (drop skip xs) ≡ left - taken = omega (arith, length-drop skip xs) in
    let same : before + taken - before ≡ taken = omega arith in
    let front : take left (drop skip xs) ≡ take taken (drop before xs) = front-window xs n skip left len in
    rw (drop-append-all xs ys skip, take-append-all (drop skip xs) (drop (skip - length xs) ys) left, skips, leaves, same, front) refl

length-window : {X : Type 0} (xs : List X) (n before taken : ℕ) → length xs ≡ n → before + taken ≤ n → length (slice_range xs before (before + taken)) ≡ taken
length-window xs n before taken len h =
    let same : before + taken - before ≡ taken = omega arith in
    rw same (length-take-le taken (drop before xs) (omega (arith, length-drop before xs)))

-- one more list of a walk that gathers a window: what is gathered, and what is left to gather
pub window_step : {X : Type 0} (done xs ys all : List X) (n skip left before taken count : ℕ)
    → length xs ≡ n → before ≡ min skip n → taken ≡ min left (n - before)
    → done ++ take left (drop skip (xs ++ ys)) ≡ all → skip + left ≤ length (xs ++ ys) → length done + left ≡ count
    → ((done ++ slice_range xs before (before + taken)) ++ take (left - taken) (drop (skip - before) ys) ≡ all)
    × (skip - before + (left - taken) ≤ length ys)
    × (length (done ++ slice_range xs before (before + taken)) + (left - taken) ≡ count)
window_step done xs ys all n skip left before taken count len b t gathered enough total =
    let part = slice_range xs before (before + taken) in
    let window : take left (drop skip (xs ++ ys)) ≡ part ++ take (left - taken) (drop (skip - before) ys) = rw (t, b) (window-append xs ys n skip left len) in
    let fits : length part ≡ taken = length-window xs n before taken len (omega arith) in (
      append_assoc done part _ ∙ sym (ap (λ l. done ++ l) window) ∙ gathered,
      omega (arith, length-append xs ys),
      omega (arith, length-append done part),
    )
