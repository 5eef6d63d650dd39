-- What each list may ask for
use Rattle.std.specs.Prelude.{◌<◌, ◌^◌, List, All}
use Rattle.lba_ranges.specs.declared.ranges.Range.{Range}

-- a range whose numbers fit their fields
abbrev pub IsRange : Range → Type 0
IsRange r = (r.lba < 2 ^ 64) × (r.count < 2 ^ 32)

abbrev pub AreRanges : List Range → Type 0
AreRanges ranges = All IsRange ranges
