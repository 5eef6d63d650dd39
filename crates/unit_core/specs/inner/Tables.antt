-- The tables of a unit, as its past makes them
use Rattle.std.specs.Prelude.{ℕ, List, length, map, Option, Some, None}
use Rattle.cm_history.specs.declared.act.Act.{Act}
use Rattle.cm_history.specs.Deeds.{Deed}
use Rattle.cm_history.specs.Operations.{Operation, written, state, result_of, kept}
use Rattle.cm_history.specs.Answers.{serial_made}
use Rattle.cm_base.specs.declared.config.UnitConfig.{UnitConfig}
use Rattle.lba_ranges.specs.Denoted.{total}
use Rattle.lba_ranges.specs.HeldBlocks.{HeldBlocks}
use Rattle.cm_history.specs.Tokens.{Token, Fate, Live, Expired, Evicted, Deleted, tokens, rod}
use Rattle.rod_store.specs.declared.kept.Kept.{Kept}
use Rattle.rod_store.specs.declared.kept.TokenState.{TokenState}
use Rattle.copy_jobs.specs.declared.job.Job.{Job}
use Rattle.copy_jobs.specs.declared.job.Work.{Work}
use Rattle.copy_jobs.specs.declared.job.Work.TheVariants.{Populated, Writing, Copying}
use Rattle.unit_core.specs.Keys.{key_made}

-- ---- tokens

-- a token stands for its blocks as long as it is live
abbrev pub token_state_of : HeldBlocks → Token → Fate → TokenState HeldBlocks
token_state_of rod t Live = TokenState.Live t.timeout t.last_use rod
token_state_of rod t Expired = TokenState.Expired
token_state_of rod t Evicted = TokenState.Evicted
token_state_of rod t Deleted = TokenState.Deleted

abbrev pub kept_of : UnitConfig → Token → Kept HeldBlocks
kept_of unit t = record { serial = t.serial; blocks = total t.ranges; state = token_state_of (rod unit t) t t.fate }

-- the tokens that a unit made
abbrev pub tokens_of : UnitConfig → List Deed → List (Kept HeldBlocks)
tokens_of unit past = map (kept_of unit) (tokens past)

-- ---- operations

abbrev pub serial_or_none : Option ℕ → ℕ
serial_or_none None = 0
serial_or_none (Some serial) = serial

-- what is kept of the operation that this act made
abbrev pub work_of : Operation → Act → Work
work_of o (Act.Start id background ranges rod) =
    Writing (record { background = background; ranges = ranges; rod = rod; written = length (written o); state = state o })
work_of o (Act.Open id) = Copying (result_of o.servers)
work_of o (Act.Populate id timeout ranges) = Populated (serial_or_none (serial_made o.made.answer)) (total ranges)
work_of o _ = Populated 0 0

abbrev pub job_of : Operation → Job
job_of o = record {
  key = key_made o;
  work = work_of o o.made.entry.act;
}

-- the jobs that a unit keeps
abbrev pub jobs_of : List Deed → List Job
jobs_of past = map job_of (kept past)
