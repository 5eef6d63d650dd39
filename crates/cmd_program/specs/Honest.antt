-- BUSY and TASK SET FULL come for want of memory and of room alone
use Rattle.std.specs.Prelude.{ℕ, List, [], ◌∷◌}
use Rattle.cm_base.specs.Configuration.{Configuration}
use Rattle.cm_frame.specs.declared.frame.Request.{Request}
use Rattle.cm_frame.specs.declared.frame.Reply.{Reply}
use Rattle.cm_history.specs.Forms.{HasKind}
use Rattle.cmd_program.specs.declared.step.Outcome.{Outcome}
use Rattle.cmd_program.specs.declared.step.Step.{Step}
use Rattle.cmd_program.specs.Program.{Program, Ends, Asks}
use Rattle.cmd_program.specs.Judging.{program}

-- a reply that says nothing of memory or of room
abbrev pub IsHonestReply : Reply → Type 0
IsHonestReply Reply.Busy = ⊥
IsHonestReply Reply.Full = ⊥
IsHonestReply _ = Unit {0}

abbrev pub IsHonestStep : Step → Type 0
IsHonestStep (Step.Done reply) = IsHonestReply reply
IsHonestStep (Step.Do unit act) = Unit {0}

-- the outcomes are answers, each of the kind that the act has which the program asks for
abbrev pub AnswerProgram : Program → List Outcome → Type 0
AnswerProgram p [] = Unit {0}
AnswerProgram (Asks ask last go_on) (Outcome.Answered a ∷ os) = HasKind ask.act a × AnswerProgram (go_on a) os
AnswerProgram (Ends reply) (Outcome.Answered a ∷ os) = AnswerProgram (Ends reply) os
AnswerProgram p (o ∷ os) = ⊥

abbrev pub AreAnswers : Configuration → ℕ → Request → List Outcome → Type 0
AreAnswers config nexus request outcomes = AnswerProgram (program config request) outcomes
