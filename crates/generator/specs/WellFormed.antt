-- That a generated trace is a trace
use Rattle.std.specs.Prelude.{◌≡◌, ℕ, ◌*◌, ◌≤◌, ◌^◌, List, ◌++◌, length, All}
use Rattle.cm_base.specs.declared.parsed.Parsed.TheVariants.{Whole}
use Rattle.cm_frame.specs.Grammar.{IsItem}
use Rattle.cm_frame.specs.Reading.{read_header}
use Rattle.cm_frame.specs.Grammar.{header_bytes}
use Rattle.generator.specs.Settings.{settings}
use Rattle.generator.specs.Generated.{items}

-- the bytes of the header
abbrev pub header_length : ℕ
header_length = 106

-- the header is read, whatever follows it
abbrev pub HeaderIsRead : Type 0
HeaderIsRead = (rest : List ℕ) → read_header (header_bytes settings ++ rest) ≡ Whole settings header_length

-- each item is one that can be spelled
abbrev pub ItemsFit : Type 0
ItemsFit = (rounds : ℕ) → rounds ≤ 2 ^ 32 → All IsItem (items rounds)

-- twelve items a round
abbrev pub TwelveEach : Type 0
TwelveEach = (rounds : ℕ) → length (items rounds) ≡ 12 * rounds
