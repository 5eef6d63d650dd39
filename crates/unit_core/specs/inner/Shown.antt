-- What the tables of a unit show: its image, without what no answer depends on
use Rattle.std.specs.Prelude.{ℕ, List, [], map, drop, Some, None, true, false}
use Rattle.lba_ranges.specs.HeldBlocks.{HeldBlocks}
use Rattle.lba_ranges.specs.Denoted.{row, blocks_of}
use Rattle.lba_ranges.specs.Writings.{Held, paired}
use Rattle.cm_history.specs.declared.act.Actor.{Actor}
use Rattle.cm_history.specs.declared.act.CopyEnd.{CopyEnd}
use Rattle.cm_history.specs.declared.act.CopyState.{CopyState}
use Rattle.cm_history.specs.declared.answer.OpState.{OpState}
use Rattle.cm_history.specs.Tokens.{Live, Expired, Evicted, Deleted}
use Rattle.cm_history.specs.Operations.{OfToken, OfCopy}
use Rattle.cm_history.specs.Image.{Image, TokenImage, OperationImage}
use Rattle.rod_store.specs.declared.kept.Kept.{Kept}
use Rattle.rod_store.specs.declared.kept.TokenState.{TokenState}
use Rattle.copy_jobs.specs.declared.key.Key.{Key}
use Rattle.pr_keys.specs.Reservations.{Reservations}
use Rattle.copy_jobs.specs.declared.job.Job.{Job}
use Rattle.copy_jobs.specs.declared.job.Work.{Work}
use Rattle.copy_jobs.specs.declared.job.Work.TheVariants.{Populated, Writing, Copying}

abbrev pub state_shown : ℕ → ℕ → TokenState HeldBlocks → TokenImage
state_shown serial blocks (TokenState.Live timeout last_use rod) =
    record { serial = serial; blocks = blocks; timeout = timeout; last_use = last_use; fate = Live; rod = Some rod }
state_shown serial blocks TokenState.Expired = record { serial = serial; blocks = blocks; timeout = 0; last_use = 0; fate = Expired; rod = None }
state_shown serial blocks TokenState.Evicted = record { serial = serial; blocks = blocks; timeout = 0; last_use = 0; fate = Evicted; rod = None }
state_shown serial blocks TokenState.Deleted = record { serial = serial; blocks = blocks; timeout = 0; last_use = 0; fate = Deleted; rod = None }

abbrev pub token_shown : Kept HeldBlocks → TokenImage
token_shown t = state_shown t.serial t.blocks t.state

-- no copy has ended
abbrev pub running_copy : CopyEnd
running_copy = record { state = CopyState.Running; segments = 0; bytes = 0 }

-- operations are begun by nexuses alone
abbrev pub work_shown : Key → Work → OperationImage
work_shown key (Populated serial blocks) = record {
  actor = Actor.Nexus key.actor;
  form = OfToken;
  id = key.id;
  report = record { populate = true; background = false; state = OpState.Done; count = blocks; serial = Some serial };
  result = running_copy;
  unwritten = [];
}
work_shown key (Writing w) = record {
  actor = Actor.Nexus key.actor;
  form = OfToken;
  id = key.id;
  report = record { populate = false; background = w.background; state = w.state; count = w.written; serial = None };
  result = running_copy;
  unwritten = drop w.written (paired (blocks_of w.ranges) w.rod.items);
}
work_shown key (Copying result) = record {
  actor = Actor.Nexus key.actor;
  form = OfCopy;
  id = key.id;
  report = record { populate = false; background = false; state = OpState.Done; count = 0; serial = None };
  result = result;
  unwritten = [];
}

abbrev pub job_shown : Job → OperationImage
job_shown job = work_shown job.key job.work

-- the image that these tables show, after so many entries
abbrev pub image_shown : ℕ → ℕ → ℕ → ℕ → (ℕ → Held) → List (Kept HeldBlocks) → List Job → Reservations → Image
image_shown moment last_stamp entries blocks holds tokens jobs reservations = record {
  moment = moment;
  last_stamp = last_stamp;
  entries = entries;
  blocks = map holds (row 0 blocks);
  tokens = map token_shown tokens;
  kept = map job_shown jobs;
  reservations = reservations;
}
