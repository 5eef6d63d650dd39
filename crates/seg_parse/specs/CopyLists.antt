-- What the list of an EXTENDED COPY may ask for
use Rattle.std.specs.Prelude.{◌≢◌, ◌<◌, ◌≤◌, ◌^◌, ℕ, length, All, IsSome}
use Rattle.seg_parse.specs.declared.list.Cscd.{Cscd}
use Rattle.seg_parse.specs.declared.list.Segment.{Segment}
use Rattle.seg_parse.specs.declared.list.CopyList.{CopyList}

-- a CSCD whose numbers fit their fields
pub record IsCscd (c : Cscd) : Type 0 where
  pub device : c.device < 32
  pub block_length : c.block_length < 2 ^ 24

-- a segment between two of so many CSCDs
pub record IsSegment (cscds : ℕ) (s : Segment) : Type 0 where
  pub source : s.source < cscds
  pub destination : s.destination < cscds

-- a list that EXTENDED COPY may bring
pub record IsCopyList (list : CopyList) : Type 0 where
  pub usage : (list.usage ≤ 3) × (list.usage ≢ 1)
  pub cscds : length list.units ≤ 16
  pub segments : length list.segments ≤ 64
  pub each_cscd : All IsCscd list.units
  pub each_segment : All (IsSegment (length list.units)) list.segments

-- each CSCD has a name
abbrev pub AreNamed : CopyList → Type 0
AreNamed list = All (λ c. IsSome c.name) list.units
