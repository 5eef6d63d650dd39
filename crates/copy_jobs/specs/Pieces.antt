-- The piece that is written next
use Rattle.std.specs.Prelude.{◌≡◌, ◌==◌, ℕ, ◌+◌, ◌-◌, ◌^◌, ◌<◌, ◌≤◌, List, length, take, drop, find, min, Option, Some, None, Bool, true, false, ◌&&◌, not}
use Rattle.std.specs.Option.{option_map}
use Rattle.lba_ranges.specs.Denoted.{blocks_of, total, is_within, is_overlapping}
use Rattle.cm_history.specs.Bounds.{piece_blocks}
use Rattle.copy_jobs.specs.declared.key.Key.{Key}
use Rattle.copy_jobs.specs.declared.job.Job.{Job}
use Rattle.copy_jobs.specs.declared.job.WriteJob.{WriteJob}
use Rattle.copy_jobs.specs.declared.job.Work.{Work}
use Rattle.copy_jobs.specs.declared.job.Work.TheVariants.{Writing}
use Rattle.copy_jobs.specs.declared.piece.NextPiece.{NextPiece}
use Rattle.copy_jobs.specs.Jobs.{is_running, runs_as, is_busy}

abbrev pub is_foreground : Work → Bool
is_foreground (Writing write) = not write.background
is_foreground work = false

abbrev pub is_background : Work → Bool
is_background (Writing write) = write.background
is_background work = false

-- the job that is to write: of a key the one in the foreground, else any in the background
abbrev pub is_next : Option Key → Job → Bool
is_next (Some key) job = runs_as key job && is_foreground job.work
is_next None job = is_running job && is_background job.work

-- the job of the key is written by the pump
abbrev pub runs_in_background : Key → Job → Bool
runs_in_background key job = runs_as key job && is_background job.work

-- how many blocks the next piece has: 1024, or all that are left
abbrev pub piece_length : Work → ℕ
piece_length (Writing write) = min piece_blocks (length write.rod.items - write.written)
piece_length work = 0

-- how many blocks are written next by the job that runs as the key
abbrev pub next_length : Key → List Job → Option ℕ
next_length key jobs = option_map (λ (job : Job). piece_length job.work) (find (runs_as key) jobs)

-- the piece has the next blocks of what is written, each with what it is to hold
pub record IsPiece (write : WriteJob) (piece : NextPiece) : Type 0 where
  pub blocks : blocks_of piece.ranges ≡ take piece_blocks (drop write.written (blocks_of write.ranges))
  pub list : piece.list ≡ record { block_length = write.rod.block_length; items = take piece_blocks (drop write.written write.rod.items) }
  pub within : (n : ℕ) → is_within n write.ranges ≡ true → is_within n piece.ranges ≡ true
  pub numbers : is_within (2 ^ 64) piece.ranges ≡ true
  pub apart : is_overlapping piece.ranges ≡ false
  pub total : total piece.ranges ≡ length piece.list.items
  pub some : 0 < length piece.list.items
  pub few : length piece.list.items ≤ piece_blocks
  pub written : piece.written ≡ write.written
  pub last : piece.is_last ≡ (write.written + length piece.list.items == length write.rod.items)

-- the piece is of the first job that is next, which is also the first that runs as its key
pub record IsNextPiece (key : Option Key) (jobs : List Job) (piece : NextPiece) : Type 0 where
  pub job : Job
  pub write : WriteJob
  pub found : find (is_next key) jobs ≡ Some job
  pub runs : find (runs_as piece.key) jobs ≡ Some job
  pub busy : is_busy piece.key jobs ≡ true
  pub named : piece.key ≡ job.key
  pub token : piece.key.copy ≡ false
  pub work : job.work ≡ Writing write
  pub next : IsPiece write piece
  pub counted : next_length piece.key jobs ≡ Some (length piece.list.items)
