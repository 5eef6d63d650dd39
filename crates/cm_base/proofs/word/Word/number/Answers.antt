use Rattle.std.proofs.Common.{◌≡◌, ◌<◌, ◌^◌, decimal, ◌∙◌, arith}
use Rattle.cm_base.proofs.Spelled.{first-low, first-high, some-word}
use Rattle.cm_base.proofs.word.Word.number.Goals as goal
use Rattle.cm_base.proofs.word.Word.number.Goals.{then-is_empty-via-then-is_empty, then-is_empty-via-else-is_empty+then-bytes-lt49, then-is_empty-via-else-is_empty+else-bytes-lt49+then-bytes-gt57}

pub returns-then-is_empty-clause-other : goal.returns-then-is_empty-clause-other
returns-then-is_empty-clause-other c = λ n few is.
    let low : c.args.most < 2 ^ 32 = omega (arith, c.ranges.most.fits) in
    let word = c.as_slice-bytes.result.now in
    let spelled : word ≡ decimal n = c.as_slice-bytes.ensures ∙ c.self.view_is ∙ is in
    elim c.then-is_empty.branch [
      | then-is_empty-via-then-is_empty w ↦ some-word word c.args.most n c.is_empty.result low few spelled c.is_empty.ensures w.if-is_empty.true
      | then-is_empty-via-else-is_empty+then-bytes-lt49 w ↦ omega (arith, first-low word c.args.most n low few spelled, w.if-bytes-lt49.true)
      | then-is_empty-via-else-is_empty+else-bytes-lt49+then-bytes-gt57 w ↦ omega (arith, first-high word c.args.most n low few spelled, w.if-bytes-gt57.true)
    ]
