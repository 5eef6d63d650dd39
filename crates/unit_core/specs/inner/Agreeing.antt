-- What a unit keeps, and how that agrees with a list of entries
use Rattle.std.specs.Prelude.{◌≡◌, ℕ, ◌+◌, ◌^◌, ◌<◌, ◌≤◌, List, length, drop, sum_by}
use Rattle.cm_base.specs.Configuration.{Configuration, IsUnit}
use Rattle.cm_base.specs.Units.{unit_of}
use Rattle.cm_base.specs.declared.config.UnitConfig.{UnitConfig}
use Rattle.cm_history.specs.declared.act.Entry.{Entry}
use Rattle.lba_ranges.specs.HeldBlocks.{HeldBlocks}
use Rattle.lba_ranges.specs.Writings.{Held}
use Rattle.cm_history.specs.Deeds.{Deed, last_stamp, moment}
use Rattle.cm_history.specs.Blocks.{held, mapped}
use Rattle.cm_history.specs.Room.{bytes_in, kept_free}
use Rattle.cm_history.specs.History.{on, past_of}
use Rattle.cm_history.specs.Asked.{AllAsked}
use Rattle.cm_history.specs.Reserving.{reservations}
use Rattle.pr_keys.specs.Reservations.{Reservations}
use Rattle.rod_store.specs.Store.{Store}
use Rattle.copy_jobs.specs.declared.job.Job.{Job}
use Rattle.unit_core.specs.inner.Tables.{tokens_of, jobs_of}

-- the blocks hold what the past says
pub record BlocksAgree (unit : UnitConfig) (past : List Deed) (own_blocks own_length : ℕ) (holds : ℕ → Held) : Type 0 where
  pub count : own_blocks ≡ unit.blocks
  pub size : own_length ≡ unit.block_length
  pub same : (block : ℕ) → block < unit.blocks → holds block ≡ held past block

-- the tokens are those that the past made
pub record TokensAgree (told : UnitConfig) (number : ℕ) (past : List Deed) (own : Store HeldBlocks) : Type 0 where
  pub unit : own.unit ≡ number
  pub tokens : own.tokens ≡ tokens_of told past

-- the entries are the unit's own, and may have been asked
pub record IsRecord (config : Configuration) (unit : ℕ) (entries : List Entry) : Type 0 where
  pub configured : unit < length config.units
  pub limits : IsUnit (unit_of config unit)
  pub own : on unit entries ≡ entries
  pub asked : AllAsked config unit (past_of config unit entries)

-- the tables and the counters are those that these entries make
pub record TablesAgree (config : Configuration) (unit : ℕ) (own_blocks own_length : ℕ) (holds : ℕ → Held) (own_tokens : Store HeldBlocks) (own_jobs : List Job) (own_reservations : Reservations) (own_stamp own_moment : ℕ) (entries : List Entry) : Type 0 where
  pub record_is : IsRecord config unit entries
  pub blocks : BlocksAgree (unit_of config unit) (past_of config unit entries) own_blocks own_length holds
  pub tokens : TokensAgree (unit_of config unit) unit (past_of config unit entries) own_tokens
  pub jobs : own_jobs ≡ jobs_of (past_of config unit entries)
  pub reservations : own_reservations ≡ reservations (past_of config unit entries)
  pub stamp : own_stamp ≡ last_stamp (past_of config unit entries)
  pub moment : own_moment ≡ moment (past_of config unit entries)
  pub quota : mapped (unit_of config unit) (past_of config unit entries) ≤ (unit_of config unit).quota

-- the bytes of all Writes among the entries
abbrev pub payload_in : List Entry → ℕ
payload_in entries = sum_by (λ (e : Entry). bytes_in e.act) entries

-- the record has the later ones of these entries, no more than the unit may keep, and room for what the operations need
pub record RecordAgrees (config : Configuration) (unit : ℕ) (kept : List Entry) (folded spare own_payload : ℕ) (entries : List Entry) : Type 0 where
  pub keeps : drop folded entries ≡ kept
  pub few : folded ≤ length entries
  -- each entry has a stamp of its own, so they can be counted
  pub stamps : length entries ≤ last_stamp (past_of config unit entries)
  pub last : last_stamp (past_of config unit entries) < 2 ^ 64
  pub free : kept_free (past_of config unit entries) ≤ spare
  pub payload : own_payload ≡ payload_in kept
  pub room : length kept + kept_free (past_of config unit entries) ≤ (unit_of config unit).entries
  pub bytes : payload_in kept ≤ (unit_of config unit).payload
