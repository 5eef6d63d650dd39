-- When a WRITE USING TOKEN without IMMED is started
use Rattle.std.specs.Prelude.{◌≡◌, ◌≤◌, ℕ, ◌+◌, List, [], ◌∷◌, length, Some, Bool, true, false}
use Rattle.cm_base.specs.Configuration.{Configuration}
use Rattle.cm_base.specs.Units.{unit_of, is_configured}
use Rattle.lba_ranges.specs.HeldBlocks.{HeldBlocks}
use Rattle.lba_ranges.specs.Denoted.{is_within}
use Rattle.rod_token.specs.declared.kind.TokenKind.{TokenKind}
use Rattle.rod_token.specs.TokenText.{classify}
use Rattle.cm_frame.specs.declared.frame.Request.{Request}
use Rattle.cm_history.specs.declared.act.Actor.{Actor}
use Rattle.cm_history.specs.declared.act.Entry.{Entry}
use Rattle.cm_history.specs.declared.answer.Answer.{Answer}
use Rattle.cm_history.specs.Deeds.{Deed}
use Rattle.cm_history.specs.Operations.{OfToken}
use Rattle.cm_history.specs.Reserving.{reservations, bars_access}
use Rattle.cm_history.specs.Answers.{is_busy, is_crowded}
use Rattle.cm_history.specs.History.{past_of, answer}
use Rattle.cmd_program.specs.declared.step.Outcome.{Outcome}
use Rattle.cmd_program.specs.declared.step.Step.{Step}
use Rattle.cmd_program.specs.TokenWrite.{TokenWrite, wanted}
use Rattle.cmd_program.specs.Judging.{step}
use Rattle.cmd_program.specs.WriteEnds.{IsWriteNow, is_progress}

-- what the command was given
abbrev pub write_of : (request : Request) → IsWriteNow request → TokenWrite
write_of request is = record { unit = request.unit; id = is.id; list = is.list }

-- The blocks of its rod part are there: those of the zero token; or its token was redeemed, and the part is within its rod.
abbrev pub HasPart : Configuration → TokenWrite → TokenKind → List Outcome → Type 0
HasPart config w TokenKind.Zero outcomes = outcomes ≡ []
HasPart config w (TokenKind.Names creator serial) outcomes =
    (is_configured config creator ≡ true)
    × ((rod : HeldBlocks) × (outcomes ≡ Outcome.Answered (Answer.Rod rod) ∷ []) × (w.list.offset + wanted w ≤ length rod.items))
HasPart config w _ outcomes = ⊥

-- Nothing stands against its Start: no reservation, no running operation of the same nexus and identifier, no range that ends
-- outside the unit, and there are not 64 operations that run.
pub record MayStart (config : Configuration) (past : List Deed) (nexus : ℕ) (w : TokenWrite) : Type 0 where
  pub not_barred : bars_access (reservations past) (Actor.Nexus nexus) (Some true) ≡ false
  pub not_busy : is_busy past (Actor.Nexus nexus) OfToken w.id ≡ false
  pub within : is_within (unit_of config w.unit).blocks w.list.ranges ≡ true
  pub not_crowded : is_crowded past ≡ false

-- the step asks for an act that is answered with progress
abbrev pub IsStartedBy : Configuration → List Entry → ℕ → ℕ → Step → Type 0
IsStartedBy config entries nexus moment (Step.Do unit act) =
    is_progress (Outcome.Answered (answer config entries unit (Actor.Nexus nexus) moment act)) ≡ true
IsStartedBy config entries nexus moment (Step.Done reply) = ⊥

-- A WRITE USING TOKEN without IMMED, sent to a unit that is there with data of the right length, is started where its rod part
-- is there and nothing stands against its Start.
abbrev pub WritesAreStarted : Configuration → Type 0
WritesAreStarted config =
    (nexus : ℕ) (request : Request) (entries : List Entry) (moment : ℕ) (outcomes : List Outcome) (is : IsWriteNow request)
    → is_configured config request.unit ≡ true → length request.out ≡ is.length
    → HasPart config (write_of request is) (classify is.list.token) outcomes
    → MayStart config (past_of config request.unit entries) nexus (write_of request is)
    → IsStartedBy config entries nexus moment (step config nexus request outcomes)
