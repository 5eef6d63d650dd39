-- Range descriptors, and what may be wrong with them
use Rattle.std.specs.Prelude.{List, Result, Ok}
use Rattle.lba_ranges.specs.declared.ranges.Range.{Range}
use Rattle.scsi_sense.specs.SenseCode.{SenseCode}
use Rattle.scsi_sense.specs.Faults.{unless}
use Rattle.block_params.specs.RangesRead.{range_fault}

-- the ranges of a token's list, or why they are refused
abbrev pub checked : List Range → Result (List Range) SenseCode
checked ranges = unless (range_fault ranges) (Ok ranges)
