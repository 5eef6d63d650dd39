-- The piece that is written next
use Rattle.std.specs.Prelude.{◌≡◌, Bool, true, false}
use Rattle.copy_jobs.specs.declared.job.Job.{Job}
use Rattle.copy_jobs.specs.declared.job.WriteJob.{WriteJob}
use Rattle.copy_jobs.specs.declared.job.Work.{Work}
use Rattle.copy_jobs.specs.declared.job.Work.TheVariants.{Writing}
use Rattle.copy_jobs.specs.declared.piece.NextPiece.{NextPiece}
use Rattle.copy_jobs.specs.Pieces.{IsPiece}

abbrev pub is_writing : Work → Bool
is_writing (Writing write) = true
is_writing work = false

-- the next piece of a job that writes
pub record IsPieceOf (job : Job) (piece : NextPiece) : Type 0 where
  pub write : WriteJob
  pub work : job.work ≡ Writing write
  pub named : piece.key ≡ job.key
  pub next : IsPiece write piece
