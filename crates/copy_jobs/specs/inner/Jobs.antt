-- The operations that a unit keeps, in the order in which they were made
use Rattle.std.specs.Prelude.{Bool, true, false}
use Rattle.copy_jobs.specs.declared.job.Work.{Work}
use Rattle.copy_jobs.specs.declared.job.Work.TheVariants.{Copying}

abbrev pub is_copying : Work → Bool
is_copying (Copying result) = true
is_copying work = false
