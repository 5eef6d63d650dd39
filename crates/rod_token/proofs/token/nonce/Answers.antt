use Rattle.std.proofs.Common.{◌≡◌, ℕ, ◌+◌, ◌*◌, ◌-◌, ◌++◌, ◌∙◌, arith, ap, sym, length}
use Rattle.byteorder.specs.Endian.{big_bytes}
use Rattle.rand_chacha.specs.ChaCha.{ChaCha, key_of, word_at}
use Rattle.cm_base.specs.Fields.{zeros}
use Rattle.rod_token.specs.TokenText.{words}
use Rattle.rod_token.proofs.Words.{words-more, length-words}
use Rattle.rod_token.proofs.Written.{written-more}
use Rattle.rod_token.proofs.token.nonce.Goals as goal

pub loop-index-preserved : goal.loop-index-preserved
loop-index-preserved c =
    let key = key_of c.args.config.now.secret in
    let place = 8 * c.args.serial in
    let index = c.loop-index.index in
    let before = c.loop-index.generator in
    let known = c.loop-index.invariant in
    let step = c.next_word-word.ensures in
    let word : c.next_word-word.result ≡ word_at 10 key c.args.unit (place + index) =
    ap (λ (p : ℕ × ChaCha). p.0) step ∙ ap (λ k. word_at 10 k before.stream before.word_pos) known.key
    ∙ ap (λ s. word_at 10 key s before.word_pos) known.stream ∙ ap (word_at 10 key c.args.unit) known.place in
    let moved = ap (λ (p : ℕ × ChaCha). p.1.word_pos) step in
    let left : 32 - 4 * index - 4 ≡ 32 - 4 * (index + 1) = omega arith in
    let written = written-more c.loop-index.bytes (words key c.args.unit place index) (big_bytes 4 c.next_word-word.result) (4 * index) (32 - 4 * index)
    known.written (length-words key c.args.unit place index) in
    record {
      key = ap (λ (p : ℕ × ChaCha). p.1.key) step ∙ known.key;
      stream = ap (λ (p : ℕ × ChaCha). p.1.stream) step ∙ known.stream;
      place = omega (arith, moved, known.place);
      written = c.set_u32.ensures ∙ written
          ∙ ap (λ w. (words key c.args.unit place index ++ big_bytes 4 w) ++ zeros (32 - 4 * index - 4)) word
          ∙ ap (λ l. l ++ zeros (32 - 4 * index - 4)) (sym (words-more key c.args.unit place index))
          ∙ ap (λ n. words key c.args.unit place (index + 1) ++ zeros n) left;
    }
