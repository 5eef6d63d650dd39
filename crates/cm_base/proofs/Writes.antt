-- What is written to the end of a slice, from a place on
use Rattle.std.proofs.Common.{◌≡◌, ℕ, ◌+◌, ◌-◌, ◌≤◌, List, [], ◌++◌, length, take, drop, sym, ap, ◌∙◌, length-drop, drop-drop, append_assoc, append-nil}
use Rattle.std.proofs.Math.Seq.{take-length, drop-length}
use borrow.Rule.Slice.PartMut.{put_mid}

-- the bytes stand at the place, and all other bytes are as before
pub put-at : (at n : ℕ) (xs bytes ys : List ℕ) → at + n ≤ length xs → ys ≡ bytes ++ drop n (take (length xs - at) (drop at xs))
    → put_mid at (length xs - at) xs ys ≡ take at xs ++ bytes ++ drop (at + n) xs
put-at at n xs bytes ys within is =
    let len = length-drop at xs in
    let whole : take (length xs - at) (drop at xs) ≡ drop at xs = ap (λ k. take k (drop at xs)) (sym len) ∙ take-length (drop at xs) in
    let none : drop (length xs - at) (drop at xs) ≡ [] = ap (λ k. drop k (drop at xs)) (sym len) ∙ drop-length (drop at xs) in
    let behind : ys ≡ bytes ++ drop (at + n) xs = is ∙ ap (λ l. bytes ++ drop n l) whole ∙ ap (λ l. bytes ++ l) (drop-drop n at xs) in
    ap (λ l. take at xs ++ (ys ++ l)) none ∙ ap (λ l. take at xs ++ l) (append-nil ys ∙ behind) ∙ sym (append_assoc (take at xs) bytes (drop (at + n) xs))
