use Rattle.std.proofs.Common.{◌≡◌, ℕ, ◌++◌, ◌∷◌, [], List, length, Some, suc, sym, ap, ◌∙◌, rules}
use Rattle.byteorder.specs.Endian.{big_bytes}
use Rattle.copy_status.specs.StatusBytes.{token_part}
use Rattle.copy_status.proofs.Parts.{joined}
use Rattle.copy_status.proofs.reading.read_token.Goals as goal

-- a token of 512 bytes after its head is a token part
spelled : (head rest token : List ℕ) → head ≡ 0 ∷ 0 ∷ 2 ∷ 2 ∷ 0 ∷ 0 ∷ [] → length rest ≡ 512 → token ≡ rest
    → head ++ rest ≡ token_part (Some token)
spelled head rest token h n e =
    ap (λ l. l ++ rest) h ∙ ap (λ k. big_bytes 4 k ++ 0 ∷ 0 ∷ rest) (sym (ap (λ k. suc (suc k)) n))
    ∙ ap (λ l. token_part (Some l)) (sym e)

pub returns-clause-spelled : goal.returns-clause-spelled
returns-clause-spelled c =
    let head : c.in_ok-head.head.now ≡ 0 ∷ 0 ∷ 2 ∷ 2 ∷ 0 ∷ 0 ∷ [] = search rules in
    let parts = c.in_ok-head.ensures.cases in
    let whole = c.in_ok-as_array.ensures.cases in
    joined 6 c.args.bytes.now c.in_ok-head.head.now c.in_ok-head.token.now parts.0 parts.1
    ∙ spelled c.in_ok-head.head.now c.in_ok-head.token.now c.in_ok-as_array.field-0.now head whole.long whole.same
