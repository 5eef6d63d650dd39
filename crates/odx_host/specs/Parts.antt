-- The parts of a copy: what each token is made of, and where its blocks are written
use Rattle.std.specs.Prelude.{◌≡◌, ℕ, zero, suc, ◌+◌, ◌-◌, List, [], ◌∷◌, length, nat_lt, if◌then◌else◌}
use Rattle.lba_ranges.specs.declared.ranges.Range.{Range}
use Rattle.lba_ranges.specs.Denoted.{total}
use Rattle.copy_plan.specs.Jobs.{CopyJob}
use Rattle.copy_plan.specs.Plans.{longest_run, part_limit, IsPlan, IsGreedy}

-- the ranges of one POPULATE TOKEN, and those of each WRITE USING TOKEN of its token
pub record Part : Type 0 where
  pub ranges : List Range
  pub writes : List (List Range)

-- the blocks of `to` at places place..last, of which there are at most `left`: each write has as many as 64 extents allow
abbrev pub writes_from : ℕ → List Range → ℕ → ℕ → List (List Range)
writes_from zero to place last = []
writes_from (suc left) to place last =
    if nat_lt place last
    then longest_run to place (last - place) ∷ writes_from left to (place + total (longest_run to place (last - place))) last
    else []

-- the ranges of the part that begins at a place: as many blocks as 1,048,576 and 64 extents allow
abbrev pub ranges_at : CopyJob → ℕ → List Range
ranges_at job place = longest_run job.from place part_limit

-- where the part behind it begins
abbrev pub place_behind : CopyJob → ℕ → ℕ
place_behind job place = place + total (ranges_at job place)

-- the part of a job that begins so many blocks behind its first
abbrev pub part_at : CopyJob → ℕ → Part
part_at job place = record {
  ranges = ranges_at job place;
  writes = writes_from (total (ranges_at job place)) job.to place (place_behind job place);
}

-- the parts from a place on, behind which there are at most `left` blocks
abbrev pub parts_from : ℕ → CopyJob → ℕ → List Part
parts_from zero job place = []
parts_from (suc left) job place =
    if nat_lt place (total job.from) then part_at job place ∷ parts_from left job (place_behind job place) else []

-- the parts of the copy, in order
abbrev pub parts : CopyJob → List Part
parts job = parts_from (total job.from) job 0

-- as many tokens as the plan of the copy has parts, of which none has fewer
pub record HasPlanned (job : CopyJob) (populates : ℕ) : Type 0 where
  pub ends : List ℕ
  pub plan : IsPlan job.from ends
  pub greedy : IsGreedy job.from 0 ends
  pub count : populates ≡ length ends
