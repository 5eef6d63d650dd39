-- A file that tells of a machine of units: a header, or a text
use Rattle.std.specs.Prelude.{◌≡◌, ℕ, List, length, slice_index, ◌==◌, Bool, MatchBool}
use Rattle.cm_base.specs.declared.parsed.Parsed.TheVariants as parsed
use Rattle.cm_frame.specs.Reading.{read_header}
use Rattle.config_text.specs.Meaning.{Means}
use Rattle.config_text.specs.Lines.{IsLine}
use Rattle.config_text.specs.declared.told.Told.{Told}
use Rattle.config_text.specs.declared.told.Told.TheVariants.{Whole, SecretIn}
use Rattle.config_text.specs.declared.fault.ConfigFault.{ConfigFault}
use Rattle.config_text.specs.declared.fault.ConfigFault.TheVariants.{OutOfMemory, Text}

-- its first byte is that of a header, C, with which no text that means anything begins
abbrev pub is_header : List ℕ → Bool
is_header bytes = slice_index bytes 0 == 0x43

-- the bytes are a header, and no more
abbrev pub IsHeaderOf : List ℕ → Told → Type 0
IsHeaderOf bytes (Whole config) = read_header bytes ≡ parsed.Whole config (length bytes)
IsHeaderOf bytes (SecretIn path units) = ⊥

-- the bytes of a file tell this
abbrev pub IsTold : List ℕ → Told → Type 0
IsTold bytes told = MatchBool (is_header bytes) (IsHeaderOf bytes told) (Means bytes told)

-- what is so of a fault, where it was not memory that was wanted
abbrev pub UnlessMemory : ConfigFault → Type 0 → Type 0
UnlessMemory OutOfMemory P = Unit {0}
UnlessMemory _ P = P

-- a fault of a text is at one of its lines
abbrev pub IsAtLine : List ℕ → ConfigFault → Type 0
IsAtLine text (Text line fault) = IsLine text line
IsAtLine text _ = Unit {0}
