use Rattle.std.proofs.Common.{arith}
use Rattle.copymgr.proofs.Spelled.{first-low, first-high, some-word}
use Rattle.copymgr.proofs.order.rounds.Goals as goal
use Rattle.copymgr.proofs.order.rounds.Goals.{then-is_empty-via-then-is_empty, then-is_empty-via-else-is_empty+then-word-lt49, then-is_empty-via-else-is_empty+else-word-lt49+then-word-gt57}

pub returns-then-is_empty-clause-other : goal.returns-then-is_empty-clause-other
returns-then-is_empty-clause-other c = λ n few is.
    let word = c.args.word.now in
    elim c.then-is_empty.branch [
      | then-is_empty-via-then-is_empty w ↦ some-word word n c.is_empty.result few is c.is_empty.ensures w.if-is_empty.true
      | then-is_empty-via-else-is_empty+then-word-lt49 w ↦ omega (arith, first-low word n few is, w.if-word-lt49.true)
      | then-is_empty-via-else-is_empty+else-word-lt49+then-word-gt57 w ↦ omega (arith, first-high word n few is, w.if-word-gt57.true)
    ]
