-- What the plain answers make of an act
use Rattle.std.specs.Prelude.{◌≡◌, List}
use Rattle.lba_ranges.specs.Writings.{Writing}
use Rattle.cm_history.specs.declared.answer.Answer.{Answer}
use Rattle.plain_model.specs.declared.outcome.PlainOutcome.{PlainOutcome}
use Rattle.cm_history.specs.Answers.{wrote_of}

-- the answer to an act, and what it wrote of all that the act writes where it is not refused
pub record IsOutcome (o : PlainOutcome) (answer : Answer) (all : List Writing) : Type 0 where
  pub told : o.answer ≡ answer
  pub wrote : o.wrote ≡ wrote_of answer all
