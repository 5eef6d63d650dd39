use Rattle.std.proofs.Common.{ℕ, List, Err, subst, arith}
use Rattle.std.specs.Str.Parse.{ParsesUnsigned}
use Rattle.copymgr.proofs.Spelled.{spelled, refused, same-number, text}
use Rattle.copymgr.proofs.order.spelled_rounds.Goals as goal
use Rattle.copymgr.proofs.order.spelled_rounds.Goals.{then-rounds-eq0-via-then-rounds-eq0, then-rounds-eq0-via-else-rounds-eq0+then-rounds-gt-MOST_ROUNDS}

pub returns-in_default-clause-other : goal.returns-in_default-clause-other
returns-in_default-clause-other c = λ n few is. c.in_default.ensures.cases.0 (text c.args.word.now n few is)

pub returns-in_default-parse-clause-other : goal.returns-in_default-parse-clause-other
returns-in_default-parse-clause-other c = λ n few is.
    refused _ c.args.word.now n c.in_default-parse.field-0 few is
    (subst (λ (w : List ℕ). ParsesUnsigned 32 10 w (Err c.in_default-parse.field-0)) c.in-Ok.ensures.cases.0 c.in_default-parse.ensures.value.0)

pub returns-then-rounds-eq0-clause-other : goal.returns-then-rounds-eq0-clause-other
returns-then-rounds-eq0-clause-other c = λ n few is.
    let same = same-number c.parse.result c.in-Ok.text.now c.args.word.now n c.in-Ok-parse.rounds few is
    c.in-Ok-parse.is c.in-Ok.ensures.cases.0 c.parse.ensures.value.0 in
    elim c.then-rounds-eq0.branch [
      | then-rounds-eq0-via-then-rounds-eq0 w ↦ omega (arith, same, few.0, w.if-rounds-eq0.true)
      | then-rounds-eq0-via-else-rounds-eq0+then-rounds-gt-MOST_ROUNDS w ↦ omega (arith, same, few.1, w.if-rounds-gt-MOST_ROUNDS.true)
    ]

pub returns-clause-spelled : goal.returns-clause-spelled
returns-clause-spelled c = (
  (omega (arith, c.if-rounds-eq0.false), omega (arith, c.if-rounds-gt-MOST_ROUNDS.false)),
  spelled c.parse.result c.in-Ok.text.now c.args.word.now c.in-Ok-parse.rounds c.in-Ok-parse.is c.in-Ok.ensures.cases.0 c.parse.ensures.value.0
      c.requires.low,
)
