-- The job of a host copier
use Rattle.std.specs.Prelude.{◌≡◌, ℕ, ◌+◌, ◌≤◌, ◌<◌, ◌^◌, List, ◌++◌, length, All, Bool, false, ◌==◌, ◌||◌, not, nat_lt, Option, Some, None, if◌then◌else◌}
use Rattle.std.specs.List.{position}
use Rattle.lba_ranges.specs.declared.ranges.Range.{Range}
use Rattle.lba_ranges.specs.Denoted.{total, is_overlapping}
use Rattle.copy_plan.specs.declared.fault.JobFault.{JobFault}

-- The blocks of `from` of the unit `source` are copied, in order, to the blocks of `to` of the unit `target`. A write is
-- asked for at most `polls` times whether it still runs.
pub record CopyJob : Type 0 where
  pub source : ℕ
  pub target : ℕ
  pub polls : ℕ
  pub from : List Range
  pub to : List Range

-- the extents that a list may have
abbrev pub extents_limit : ℕ
extents_limit = 65_536

-- the blocks that a job may copy
abbrev pub blocks_limit : ℕ
blocks_limit = 4_294_967_296

-- blocks in a row, at least one, whose numbers have 64 bits
pub record IsExtent (extent : Range) : Type 0 where
  pub some : 0 < extent.count
  pub numbers : extent.lba + extent.count ≤ 2 ^ 64

-- a list of extents, in which no block stands twice, and not too many blocks stand
pub record AreExtents (extents : List Range) : Type 0 where
  pub few : length extents ≤ extents_limit
  pub each : All IsExtent extents
  pub apart : is_overlapping extents ≡ false
  pub blocks : total extents ≤ blocks_limit

-- as many blocks are read as are written
pub record IsJob (job : CopyJob) : Type 0 where
  pub polls : 1 ≤ job.polls
  pub from : AreExtents job.from
  pub to : AreExtents job.to
  pub same : total job.to ≡ total job.from

-- ---- what is wrong with a job

-- the extent has no block, or ends past the last block that can be addressed
abbrev pub is_bad : Range → Bool
is_bad extent = (extent.count == 0) || nat_lt (2 ^ 64) (extent.lba + extent.count)

-- what is wrong with the blocks of a job: one is named twice, or there are not as many on both sides, or too many
abbrev pub fault_of_blocks : CopyJob → Option JobFault
fault_of_blocks job =
    if is_overlapping job.from || is_overlapping job.to then Some JobFault.SharedBlock
    else if not (total job.from == total job.to) || nat_lt blocks_limit (total job.from) then Some JobFault.BadTotals
    else None

-- the extents of `from` are numbered from 0, and those of `to` behind them
abbrev pub fault_of_extents : CopyJob → Option ℕ → Option JobFault
fault_of_extents job (Some index) = Some (JobFault.BadExtent index)
fault_of_extents job None = fault_of_blocks job

-- the first fault of a job, if it has one
abbrev pub job_fault : CopyJob → Option JobFault
job_fault job =
    if job.polls == 0 then Some JobFault.NoPolls
    else if nat_lt extents_limit (length job.from) then Some JobFault.ManySources
    else if nat_lt extents_limit (length job.to) then Some JobFault.ManyTargets
    else fault_of_extents job (position is_bad (job.from ++ job.to))
