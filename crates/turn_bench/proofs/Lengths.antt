-- A tally stands for a history with one more entry
use Rattle.std.proofs.Common.{◌≡◌, ℕ, ◌+◌, List, [], ◌∷◌, ◌++◌, length, arith, length-append}

pub one_more : {A : Type 0} (history : List A) (e : A) (n m : ℕ) → length history ≡ n → m ≡ n + 1 → length (history ++ e ∷ []) ≡ m
one_more history e n m is more = let l = length-append history (e ∷ []) in omega arith
