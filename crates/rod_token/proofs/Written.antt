-- What is written behind the bytes that were written before, where zeros stood
use Rattle.std.proofs.Common.{◌≡◌, ℕ, ◌+◌, ◌-◌, ◌≤◌, List, ◌++◌, arith, length, take, drop, refl, sym, ap, ◌∙◌, take_at, drop_at, append_assoc, drop-drop}
use Rattle.std.proofs.lemmas.List.{drop-replicate}
use Rattle.cm_base.specs.Fields.{zeros}

pub written-more : (xs front bytes : List ℕ) (at m : ℕ) → xs ≡ front ++ zeros m → length front ≡ at
    → take at xs ++ bytes ++ drop (at + length bytes) xs ≡ (front ++ bytes) ++ zeros (m - length bytes)
written-more xs front bytes at m is len =
    let taken : take at xs ≡ front = ap (take at) is ∙ take_at front (zeros m) at len in
    let left : drop at xs ≡ zeros m = ap (drop at) is ∙ drop_at front (zeros m) at len in
    let rest : drop (at + length bytes) xs ≡ zeros (m - length bytes) =
    sym (drop-drop (length bytes) at xs) ∙ ap (drop (length bytes)) left ∙ drop-replicate (length bytes) m 0 in
    ap (λ l. l ++ bytes ++ drop (at + length bytes) xs) taken ∙ ap (λ l. front ++ bytes ++ l) rest
