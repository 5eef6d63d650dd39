-- Words of a stream, one more
use Rattle.std.proofs.Common.{◌≡◌, ℕ, zero, suc, ◌+◌, ◌*◌, List, [], ◌++◌, arith, length, refl, sym, ap, ◌∙◌, append_assoc, append-nil}
use Rattle.byteorder.specs.Endian.{big_bytes}
use Rattle.rand_chacha.specs.ChaCha.{word_at}
use Rattle.rod_token.specs.TokenText.{words}

pub words-more : (key : List ℕ) (stream place n : ℕ)
    → words key stream place (n + 1) ≡ words key stream place n ++ big_bytes 4 (word_at 10 key stream (place + n))
words-more key stream place zero =
    let same : place + 0 ≡ place = omega arith in
    ap (λ p. big_bytes 4 (word_at 10 key stream p)) (sym same)
words-more key stream place (suc n) =
    let count : suc n + 1 ≡ suc (n + 1) = omega arith in
    let last : suc place + n ≡ place + suc n = omega arith in
    ap (words key stream place) count
    ∙ ap (λ l. big_bytes 4 (word_at 10 key stream place) ++ l) (words-more key stream (suc place) n)
    ∙ ap (λ p. big_bytes 4 (word_at 10 key stream place) ++ (words key stream (suc place) n ++ big_bytes 4 (word_at 10 key stream p))) last

pub length-words : (key : List ℕ) (stream place n : ℕ) → length (words key stream place n) ≡ 4 * n
length-words key stream place zero = omega arith
length-words key stream place (suc n) = omega (arith, length-words key stream (suc place) n)
