use Rattle.std.proofs.Common.{◌<◌, ◌^◌, ℕ, List, Err, subst, arith}
use Rattle.std.specs.Str.Parse.{ParsesUnsigned}
use Rattle.cm_base.proofs.Spelled.{spelled, refused, same-number, text}
use Rattle.cm_base.proofs.word.number_of.Goals as goal
use Rattle.cm_base.proofs.word.number_of.Goals.{then-number-eq0-via-then-number-eq0, then-number-eq0-via-else-number-eq0+then-number-most}

pub returns-in_default-clause-other : goal.returns-in_default-clause-other
returns-in_default-clause-other c = λ n few is.
    let low : c.args.most < 2 ^ 32 = omega (arith, c.ranges.most.fits) in
    c.in_default.ensures.cases.0 (text c.args.bytes.now c.args.most n low few is)

pub returns-in_default-parse-clause-other : goal.returns-in_default-parse-clause-other
returns-in_default-parse-clause-other c = λ n few is.
    let low : c.args.most < 2 ^ 32 = omega (arith, c.ranges.most.fits) in
    refused _ c.args.bytes.now c.args.most n c.in_default-parse.field-0 low few is
    (subst (λ (w : List ℕ). ParsesUnsigned 32 10 w (Err c.in_default-parse.field-0)) c.in-Ok.ensures.cases.0 c.in_default-parse.ensures.value.0)

pub returns-then-number-eq0-clause-other : goal.returns-then-number-eq0-clause-other
returns-then-number-eq0-clause-other c = λ n few is.
    let low : c.args.most < 2 ^ 32 = omega (arith, c.ranges.most.fits) in
    let same = same-number c.parse.result c.in-Ok.text.now c.args.bytes.now c.args.most n c.in-Ok-parse.number low few is
    c.in-Ok-parse.is c.in-Ok.ensures.cases.0 c.parse.ensures.value.0 in
    elim c.then-number-eq0.branch [
      | then-number-eq0-via-then-number-eq0 w ↦ omega (arith, same, few.0, w.if-number-eq0.true)
      | then-number-eq0-via-else-number-eq0+then-number-most w ↦ omega (arith, same, few.1, w.if-number-most.true)
    ]

pub returns-clause-spelled : goal.returns-clause-spelled
returns-clause-spelled c = (
  (omega (arith, c.if-number-eq0.false), omega (arith, c.if-number-most.false)),
  spelled c.parse.result c.in-Ok.text.now c.args.bytes.now c.in-Ok-parse.number c.in-Ok-parse.is c.in-Ok.ensures.cases.0 c.parse.ensures.value.0
      c.requires.low,
)
