-- The block numbers that ranges denote
use Rattle.std.specs.Prelude.{◌+◌, Bool, nat_lt, min, max}
use Rattle.lba_ranges.specs.declared.ranges.Range.{Range}

-- a block is in both ranges
abbrev pub meets : Range → Range → Bool
meets a b = nat_lt (max a.lba b.lba) (min (a.lba + a.count) (b.lba + b.count))
