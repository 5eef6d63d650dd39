-- Parts of a list of blocks, and the plan of a copy
use Rattle.std.specs.Prelude.{◌≡◌, ℕ, ◌+◌, ◌-◌, ◌≤◌, ◌<◌, List, [], ◌∷◌, ◌++◌, length, take, min, nat_lt, if◌then◌else◌}
use Rattle.lba_ranges.specs.declared.ranges.Range.{Range}
use Rattle.lba_ranges.specs.Denoted.{total}

-- The blocks of some extents, one behind the other, have the places 0, 1, 2 .. of one list.

-- the blocks of an extent at places first..last, if there are any; `last` is not among them
abbrev pub range_between : Range → ℕ → ℕ → List Range
range_between extent first last =
    if nat_lt first (min extent.count last) then record { lba = extent.lba + first; count = min extent.count last - first } ∷ []
    else []

-- the blocks at places first..last, as one range of each extent that has any of them
abbrev pub ranges_between : List Range → ℕ → ℕ → List Range
ranges_between [] first last = []
ranges_between (extent ∷ extents) first last =
    range_between extent first last ++ ranges_between extents (first - extent.count) (last - extent.count)

-- the extents of which the blocks at places first..last are
abbrev pub extents_between : List Range → ℕ → ℕ → ℕ
extents_between extents first last = length (ranges_between extents first last)

-- the extents that one command may name
abbrev pub ranges_limit : ℕ
ranges_limit = 64

-- `n` blocks from a place on are as many as there are, up to `most` and from at most 64 extents
pub record IsLongestRun (extents : List Range) (place most n : ℕ) : Type 0 where
  pub there : place + n ≤ total extents
  pub within : n ≤ most
  pub few : extents_between extents place (place + n) ≤ ranges_limit
  pub longest : (more : ℕ) → place + more ≤ total extents → more ≤ most → extents_between extents place (place + more) ≤ ranges_limit → more ≤ n

-- the ranges of that run
abbrev pub longest_run : List Range → ℕ → ℕ → List Range
longest_run extents place most = take ranges_limit (ranges_between extents place (place + most))

-- ---- plans

-- the blocks of one POPULATE TOKEN
abbrev pub part_limit : ℕ
part_limit = 1_048_576

-- a part that one POPULATE TOKEN can read: not empty, and within its limits
pub record IsPart (from : List Range) (first last : ℕ) : Type 0 where
  pub some : first < last
  pub blocks : last ≤ first + part_limit
  pub extents : extents_between from first last ≤ ranges_limit

-- parts that end at these places, of which the first begins at `first`, and each other where the one before it ends
abbrev pub IsCut : List Range → ℕ → ℕ → List ℕ → Type 0
IsCut from first last [] = first ≡ last
IsCut from first last (end ∷ ends) = IsPart from first end × IsCut from end last ends

-- the ends of parts that are all blocks of `from`, in order
abbrev pub IsPlan : List Range → List ℕ → Type 0
IsPlan from ends = IsCut from 0 (total from) ends

-- each part, of which the first begins at `first`, is as long as it may be
abbrev pub IsGreedy : List Range → ℕ → List ℕ → Type 0
IsGreedy from first [] = Unit {0}
IsGreedy from first (end ∷ ends) = IsLongestRun from first part_limit (end - first) × IsGreedy from end ends

-- where a cursor over blocks stands: before the block at `place`
pub record Cursor : Type 0 where
  pub extents : List Range
  pub place : ℕ
