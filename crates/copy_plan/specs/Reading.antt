-- A job at the front of some bytes
use Rattle.std.specs.Prelude.{ℕ, zero, suc, ◌+◌, ◌*◌, List, [], ◌∷◌, length, drop, Option, Some, None, ◌==◌, nat_lt, if◌then◌else◌}
use Rattle.cm_base.specs.declared.parsed.Parsed.{Parsed}
use Rattle.cm_base.specs.declared.parsed.Parsed.TheVariants.{Whole, Short, Bad}
use Rattle.cm_base.specs.Fields.{field}
use Rattle.lba_ranges.specs.declared.ranges.Range.{Range}
use Rattle.copy_plan.specs.declared.fault.JobFault.{JobFault}
use Rattle.copy_plan.specs.Jobs.{CopyJob, extents_limit, job_fault}

-- the extent that 12 bytes spell
abbrev pub extent_in : List ℕ → Range
extent_in bytes = record { lba = field bytes 0 7; count = field bytes 8 11 }

-- `n` extents, 12 bytes each
abbrev pub extents_in : ℕ → List ℕ → List Range
extents_in zero bytes = []
extents_in (suc n) bytes = extent_in bytes ∷ extents_in n (drop 12 bytes)

-- the numbers of extents that the front tells
abbrev pub sources_told : List ℕ → ℕ
sources_told bytes = field bytes 8 11

-- how many extents are written
abbrev pub targets_told : List ℕ → ℕ
targets_told bytes = field bytes 12 15

-- the bytes of a job
abbrev pub job_length : List ℕ → ℕ
job_length bytes = 16 + 12 * (sources_told bytes + targets_told bytes)

-- the job that the bytes spell; the extents stand from byte 16 on
abbrev pub job_in : List ℕ → CopyJob
job_in bytes = record {
  source = field bytes 0 1;
  target = field bytes 2 3;
  polls = field bytes 4 7;
  from = extents_in (sources_told bytes) (drop 16 bytes);
  to = extents_in (targets_told bytes) (drop (16 + 12 * sources_told bytes) bytes);
}

-- the place of what is wrong; that of the whole job is 0
abbrev pub place_of : JobFault → ℕ
place_of JobFault.NoPolls = 4
place_of JobFault.ManySources = 8
place_of JobFault.ManyTargets = 12
place_of (JobFault.BadExtent index) = 16 + 12 * index
place_of _ = 0

-- the job that the bytes spell, unless something is wrong with it
abbrev pub judged_job : List ℕ → Option JobFault → Parsed CopyJob
judged_job bytes (Some fault) = Bad (place_of fault)
judged_job bytes None = Whole (job_in bytes) (job_length bytes)

-- The first 16 bytes are judged when they are there, and the extents when all of them are.
abbrev pub read_job : List ℕ → Parsed CopyJob
read_job bytes =
    if nat_lt (length bytes) 16 then Short
    else if field bytes 4 7 == 0 then Bad (place_of JobFault.NoPolls)
    else if nat_lt extents_limit (sources_told bytes) then Bad (place_of JobFault.ManySources)
    else if nat_lt extents_limit (targets_told bytes) then Bad (place_of JobFault.ManyTargets)
    else if nat_lt (length bytes) (job_length bytes) then Short
    else judged_job bytes (job_fault (job_in bytes))
