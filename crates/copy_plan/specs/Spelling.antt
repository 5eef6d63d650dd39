-- The one spelling of a job
use Rattle.std.specs.Prelude.{ℕ, ◌<◌, ◌^◌, List, ◌++◌, length, flat_map, All}
use Rattle.byteorder.specs.Endian.{big_bytes}
use Rattle.lba_ranges.specs.declared.ranges.Range.{Range}
use Rattle.copy_plan.specs.Jobs.{CopyJob, IsJob}

-- first block, number of blocks
abbrev pub extent_bytes : Range → List ℕ
extent_bytes extent = big_bytes 8 extent.lba ++ big_bytes 4 extent.count

-- units, polls, numbers of extents
abbrev pub front_bytes : CopyJob → List ℕ
front_bytes job =
    big_bytes 2 job.source ++ big_bytes 2 job.target ++ big_bytes 4 job.polls
    ++ big_bytes 4 (length job.from) ++ big_bytes 4 (length job.to)

-- the front, and the extents
abbrev pub job_bytes : CopyJob → List ℕ
job_bytes job = front_bytes job ++ flat_map extent_bytes job.from ++ flat_map extent_bytes job.to

-- a job whose numbers fit their fields
pub record FitsJob (job : CopyJob) : Type 0 where
  pub is : IsJob job
  pub source : job.source < 2 ^ 16
  pub target : job.target < 2 ^ 16
  pub polls : job.polls < 2 ^ 32
  pub from : All (λ (extent : Range). extent.count < 2 ^ 32) job.from
  pub to : All (λ (extent : Range). extent.count < 2 ^ 32) job.to
