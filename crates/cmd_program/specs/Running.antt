-- The calls by which a nexus had acts done
use Rattle.std.specs.Prelude.{ℕ, List, [], ◌∷◌, ◌++◌, Result, Ok, Err}
use Rattle.cm_history.specs.declared.act.Act.{Act}
use Rattle.cm_history.specs.declared.answer.Answer.{Answer}
use Rattle.cm_history.specs.declared.refused.ActRefused.{ActRefused}
use Rattle.cmd_program.specs.declared.step.Outcome.{Outcome}

-- an act that was asked of a unit, and what came of it
pub record Call : Type 0 where
  pub unit : ℕ
  pub moment : ℕ
  pub act : Act
  pub outcome : Outcome

abbrev pub outcome_of : Result Answer ActRefused → Outcome
outcome_of (Ok answer) = Outcome.Answered answer
outcome_of (Err ActRefused.Full) = Outcome.Full
outcome_of (Err ActRefused.OutOfMemory) = Outcome.NoMemory

-- the calls so far, and one more
abbrev pub called : List Call → ℕ → ℕ → Act → Result Answer ActRefused → List Call
called calls unit moment act result =
    calls ++ (record { unit = unit; moment = moment; act = act; outcome = outcome_of result }) ∷ []
