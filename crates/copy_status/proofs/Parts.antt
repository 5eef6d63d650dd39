-- Lists that were cut in two
use Rattle.std.proofs.Common.{◌≡◌, ℕ, List, ◌++◌, take, drop, sym, ap, ◌∙◌}
use Rattle.std.proofs.lemmas.List.{take-append-drop}

-- a list is its two parts
pub joined : (n : ℕ) (xs front back : List ℕ) → front ≡ take n xs → back ≡ drop n xs → xs ≡ front ++ back
joined n xs front back f b = sym (take-append-drop n xs) ∙ ap (λ l. l ++ drop n xs) (sym f) ∙ ap (λ l. front ++ l) (sym b)
