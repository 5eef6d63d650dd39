-- What a command may ask, what it may reply, and what may come of it
use Rattle.std.specs.Prelude.{◌≡◌, ℕ, ◌<◌, ◌≤◌, List, length, Bool, true, if◌then◌else◌}
use Rattle.cm_base.specs.Configuration.{Configuration}
use Rattle.cm_frame.specs.declared.frame.Reply.{Reply}
use Rattle.cm_history.specs.declared.act.Act.{Act}
use Rattle.cm_history.specs.declared.act.Actor.{Actor}
use Rattle.lba_ranges.specs.declared.status.MapRun.{MapRun}
use Rattle.lba_ranges.specs.Status.{told_runs}
use Rattle.lba_ranges.specs.HeldBlocks.{HeldBlocks}
use Rattle.cm_frame.specs.Grammar.{data_limit}
use Rattle.cm_history.specs.Forms.{HasForm}
use Rattle.cm_history.specs.Limits.{within_limits}
use Rattle.cm_history.specs.Legal.{may_ask}
use Rattle.cmd_program.specs.declared.step.Outcome.{Outcome}
use Rattle.cmd_program.specs.declared.step.Step.{Step}

-- the reply of a command that gave up
abbrev pub reply_of : Bool → Reply
reply_of full = if full then Reply.Full else Reply.Busy

-- an act that may be asked of a unit by a nexus
pub record IsAskedOf (config : Configuration) (unit : ℕ) (act : Act) : Type 0 where
  pub configured : unit < length config.units
  pub limits : within_limits config unit act ≡ true
  pub asked : (nexus : ℕ) → may_ask unit (Actor.Nexus nexus) act ≡ true

-- what the step asks may be asked
abbrev pub IsAskable : Configuration → Step → Type 0
IsAskable config (Step.Do unit act) = IsAskedOf config unit act
IsAskable config (Step.Done reply) = Unit {0}

-- the blocks fit into one reply
pub record FitsReply (list : HeldBlocks) : Type 0 where
  pub count : length list.items ≤ 2048
  pub size : list.block_length ≤ 4096

-- so many runs at most are told
abbrev pub AreTold : List MapRun → Type 0
AreTold runs = length runs ≤ told_runs

-- ---- lengths

-- the data of a reply has the length that a frame may have
abbrev pub IsOfLength : Reply → Type 0
IsOfLength (Reply.Good bytes) = length bytes ≤ data_limit
IsOfLength _ = Unit {0}

-- what the step replies has such data
abbrev pub IsWritable : Step → Type 0
IsWritable (Step.Done reply) = IsOfLength reply
IsWritable (Step.Do unit act) = Unit {0}

-- an outcome that an act of the unit can have: an answer has its form
abbrev pub IsOutcomeOf : Configuration → ℕ → Act → Outcome → Type 0
IsOutcomeOf config unit act (Outcome.Answered answer) = HasForm config unit act answer
IsOutcomeOf config unit act _ = Unit {0}

abbrev pub MayFollow : Configuration → Step → Outcome → Type 0
MayFollow config (Step.Do unit act) outcome = IsOutcomeOf config unit act outcome
MayFollow config (Step.Done reply) outcome = Unit {0}
