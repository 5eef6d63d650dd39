-- What is planned for an act: its answer, and what it is to change
use Rattle.std.specs.Prelude.{◌≡◌, ◌⊎◌, ℕ, ◌+◌, ◌≤◌, List, ◌∷◌, length, max, Option, Some, None, unwrap_or, Bool, true, ◌&&◌, ◌||◌, not, nat_lt, if◌then◌else◌}
use Rattle.cm_base.specs.declared.config.UnitConfig.{UnitConfig}
use Rattle.lba_ranges.specs.Denoted.{blocks_of}
use Rattle.lba_ranges.specs.HeldBlocks.{HeldBlocks}
use Rattle.lba_ranges.specs.Writings.{Held, paired}
use Rattle.cm_history.specs.declared.answer.OpState.{OpState}
use Rattle.scsi_sense.specs.Codes.{space_allocation_failed, invalid_field_in_cdb}
use Rattle.cm_history.specs.Blocks.{held, mapped_with}
use Rattle.cm_history.specs.Legal.{may_ask}
use Rattle.cm_history.specs.Operations.{OfToken}
use Rattle.copy_jobs.specs.declared.key.Key.{Key}
use Rattle.copy_jobs.specs.declared.piece.NextPiece.{NextPiece}
use Rattle.cm_base.specs.Configuration.{Configuration}
use Rattle.cm_base.specs.Units.{unit_of}
use Rattle.cm_history.specs.declared.act.Act.{Act}
use Rattle.cm_history.specs.declared.act.Actor.{Actor}
use Rattle.cm_history.specs.declared.answer.Answer.{Answer}
use Rattle.cm_history.specs.Deeds.{Deed, moment}
use Rattle.cm_history.specs.Answers.{answer_after, deed, writings, wrote_of}
use Rattle.unit_core.specs.declared.block_change.BlockChange.{BlockChange}
use Rattle.unit_core.specs.declared.block_plans.BlockPlan.{BlockPlan}
use Rattle.unit_core.specs.declared.job_change.JobChange.{JobChange}
use Rattle.rod_store.specs.declared.token_change.TokenChange.{TokenChange}
use Rattle.unit_core.specs.declared.plan.Plan.{Plan}
use Rattle.unit_core.specs.inner.BlockChanges.{writings_of, MayChange, is_nothing}
use Rattle.unit_core.specs.inner.JobChanges.{jobs_after, MayJob, grows}
use Rattle.rod_store.specs.Pinning.{rod_now}
use Rattle.rod_store.specs.TokenChanges.{tokens_after, MayPin, MayToken, is_make, ranges_pinned}
use Rattle.unit_core.specs.inner.Seen.{ranges_made}
use Rattle.unit_core.specs.Keys.{key_of}
use Rattle.unit_core.specs.inner.Tables.{tokens_of, jobs_of}
use Rattle.cm_history.specs.Ends.{ends_operation}
use Rattle.cm_history.specs.Reserving.{reservations, reserved_by}

-- nothing is to change
abbrev pub quiet : Answer → Plan
quiet answer = record { answer = answer; blocks = BlockChange.Nothing; jobs = JobChange.Nothing; tokens = TokenChange.Nothing; reservations = None }

-- blocks alone are to change
abbrev pub of_blocks : BlockPlan → Plan
of_blocks plan = record { answer = plan.answer; blocks = plan.change; jobs = JobChange.Nothing; tokens = TokenChange.Nothing; reservations = None }

-- the deed of this act, after this past
pub record IsDeed (config : Configuration) (unit : ℕ) (past : List Deed) (by : Actor) (at : ℕ) (asked : Act) (d : Deed) : Type 0 where
  pub made : d ≡ deed config unit past d.entry
  pub actor : d.entry.actor ≡ by
  pub moment : d.entry.moment ≡ at
  pub act : d.entry.act ≡ asked

-- it is done without memory
abbrev pub takes_none : Plan → Bool
takes_none plan = is_nothing plan.blocks && not (grows plan.jobs) && not (is_make plan.tokens)

-- the plan gives the answer, and brings each table to what the past then says
pub record IsPlan (config : Configuration) (unit : ℕ) (past : List Deed) (actor : Actor) (at : ℕ) (act : Act) (plan : Plan) : Type 0 where
  pub answer : plan.answer ≡ answer_after config unit past actor at act
  pub wrote : writings_of plan.blocks ≡ wrote_of plan.answer (writings past actor act)
  pub jobs : (d : Deed) → IsDeed config unit past actor at act d → jobs_of (d ∷ past) ≡ jobs_after plan.jobs (jobs_of past)
  pub tokens : (d : Deed) → IsDeed config unit past actor at act d
      → tokens_of (unit_of config unit) (d ∷ past) ≡ tokens_after (rod_now (unit_of config unit).block_length (held past)) plan.tokens (max at (moment past)) (tokens_of (unit_of config unit) past)
  pub reservations : unwrap_or plan.reservations (reservations past) ≡ reserved_by (reservations past) actor act
  pub may_blocks : MayChange (unit_of config unit).blocks (unit_of config unit).block_length plan.blocks
  pub may_jobs : MayJob plan.jobs (jobs_of past)
  pub may_tokens : (spare : ℕ) → (is_make plan.tokens ≡ true → 1 ≤ spare)
      → MayToken (record { unit = unit; tokens = tokens_of (unit_of config unit) past; spare = spare }) (max at (moment past)) plan.tokens
  pub may_pin : MayPin (unit_of config unit).blocks plan.tokens
  pub makes : ranges_pinned plan.tokens ≡ ranges_made plan.answer act
  -- what may fail in one table leaves the others
  pub apart : (grows plan.jobs || is_make plan.tokens) ≡ true → is_nothing plan.blocks ≡ true
  pub ends : ends_operation past actor act ≡ true → takes_none plan ≡ true

-- ---- the acts that are planned alike

abbrev pub Reads : ℕ → ℕ → Act → Type 0
Reads lba count act = (act ≡ Act.Read lba count) ⊎ (act ≡ Act.Capture lba count)

abbrev pub Writes : ℕ → HeldBlocks → Act → Type 0
Writes lba list act = (act ≡ Act.Write lba list) ⊎ (act ≡ Act.Put lba list)

-- an Advance of the operation of the key
pub record Advances (actor : Actor) (asked : Act) (key : Option Key) (otherwise : Answer) : Type 0 where
  pub id : ℕ
  pub act : asked ≡ Act.Advance id
  pub key_is : key ≡ Some (key_of actor OfToken id)
  pub none : otherwise ≡ Answer.Refused invalid_field_in_cdb

pub record Pumps (asked : Act) (key : Option Key) (otherwise : Answer) : Type 0 where
  pub act : asked ≡ Act.Pump
  pub key_is : key ≡ None
  pub none : otherwise ≡ Answer.Idle

-- an act that writes the next piece of an operation
abbrev pub WritesPiece : ℕ → Actor → Act → Option Key → Answer → Type 0
WritesPiece unit actor act key otherwise = (may_ask unit actor act ≡ true) × (Advances actor act key otherwise ⊎ Pumps act key otherwise)

-- the piece is written, or stopped by the quota
abbrev pub piece_plan : UnitConfig → (ℕ → Held) → NextPiece → Plan
piece_plan unit now piece =
    if nat_lt unit.quota (mapped_with unit now (paired (blocks_of piece.ranges) piece.list.items))
    then record {
      answer = Answer.Progress (OpState.Failed space_allocation_failed) piece.written;
      blocks = BlockChange.Nothing;
      jobs = JobChange.Stop piece.key;
      tokens = TokenChange.Nothing;
      reservations = None;
    }
    else record {
      answer = Answer.Progress (if piece.is_last then OpState.Done else OpState.Running) (piece.written + length piece.list.items);
      blocks = BlockChange.PutPiece piece.ranges piece.list;
      jobs = JobChange.Move piece.key (length piece.list.items);
      tokens = TokenChange.Nothing;
      reservations = None;
    }
