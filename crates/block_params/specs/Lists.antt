-- What each list may ask for
use Rattle.std.specs.Prelude.{◌≡◌, ◌≤◌, None}
use Rattle.block_params.specs.declared.lists.PopulateList.{PopulateList}
use Rattle.block_params.specs.declared.lists.WriteList.{WriteList}
use Rattle.block_params.specs.RangesRead.{range_fault}

-- a list that POPULATE TOKEN may bring
pub record IsPopulate (list : PopulateList) : Type 0 where
  pub timeout : (1 ≤ list.timeout) × (list.timeout ≤ 3600)
  pub ranges : range_fault list.ranges ≡ None

-- a list that WRITE USING TOKEN may bring
abbrev pub IsWrite : WriteList → Type 0
IsWrite list = range_fault list.ranges ≡ None
