-- How a file is read when it is opened
use Rattle.std.specs.Prelude.{◌≡◌, ◌≤◌, ◌<◌, ◌+◌, ℕ, List, [], ◌++◌, length, take, drop, Option, Some, None, true, false, IfSome}
use Rattle.byteorder.specs.Endian.{big_bytes}
use Rattle.cm_base.specs.Configuration.{Configuration}
use Rattle.cm_history.specs.declared.act.Entry.{Entry}
use Rattle.journal_disk.specs.Opened.{front_bytes, mark_bytes, is_unmade, told_size, good_entry}
use Rattle.journal_disk.specs.Log.{framed, records, Holds}
use Rattle.journal_disk.specs.Journal.{last_stamp, Spells, AreSpelled}
use Rattle.journal_disk.specs.inner.NewFile.{MayMake}
use Rattle.journal_disk.specs.declared.scanning.Next.{Next}
use Rattle.journal_disk.specs.declared.judging.Shape.{Shape}
use Rattle.journal_disk.specs.declared.judging.Shape.TheVariants.{Unmade, Made}

-- an entry that may stand next, and its record behind an open gate: so many bytes of payload, and the closing gate
pub record IsNext (config : Configuration) (unit last gate size : ℕ) (file : List ℕ) (e : Entry) : Type 0 where
  pub payload : List ℕ
  pub counts : length payload ≡ size
  pub spells : Spells config unit last payload e
  pub parts : take (8 + size) (drop (gate + 1) file) ≡ framed payload
  pub within : gate + 9 + size < length file

-- what was found behind an open gate, where the file has so many bytes: the length of a record's payload, or no record
abbrev pub IfSize : List ℕ → ℕ → Option ℕ → Type 0
IfSize file gate None = length (drop (gate + 1) file) ≤ 8 + told_size (drop (gate + 1) file)
IfSize file gate (Some n) = (n ≡ told_size (drop (gate + 1) file)) × (big_bytes 8 n ≡ take 8 (drop (gate + 1) file))

-- the next entry, or no good record
abbrev pub IfNext : Configuration → ℕ → ℕ → ℕ → List ℕ → Option Next → Type 0
IfNext config unit last gate file None = good_entry config unit last (drop (gate + 1) file) ≡ None
IfNext config unit last gate file (Some n) = IsNext config unit last gate n.size file n.entry

-- up to this gate the file has the records of these entries, of which the last has this stamp
pub record IsScanned (config : Configuration) (unit : ℕ) (file : List ℕ) (gate last : ℕ) (es : List Entry) : Type 0 where
  pub payloads : List (List ℕ)
  pub spelled : AreSpelled config unit 0 payloads es
  pub gate_is : gate ≡ length (front_bytes config unit ++ records payloads)
  pub last_is : last ≡ last_stamp 0 es
  pub parts : take gate file ≡ front_bytes config unit ++ records payloads
  pub within : gate < length file

-- these are all: the gate is not open
pub record IsFound (config : Configuration) (unit : ℕ) (file : List ℕ) (gate : ℕ) (es : List Entry) : Type 0 where
  pub payloads : List (List ℕ)
  pub spelled : AreSpelled config unit 0 payloads es
  pub gate_is : gate ≡ length (front_bytes config unit ++ records payloads)
  pub holds : Holds (front_bytes config unit) payloads file

-- what a file is, before its records are looked at
abbrev pub IsOfShape : Configuration → ℕ → List ℕ → Shape → Type 0
IsOfShape config unit file (Unmade closes) = MayMake closes (mark_bytes config unit) file × (is_unmade (front_bytes config unit) file ≡ true)
IsOfShape config unit file (Made size) = (size ≡ length file) × IsScanned config unit file (length (front_bytes config unit)) 0 []

-- what is owed of the file where it is told
abbrev pub IsSafeShape : Option (List ℕ) → ℕ → Shape → Type 0
IsSafeShape reads start (Unmade true) = Unit {0}
IsSafeShape reads start (Unmade false) = IfSome reads (λ file. 1 ≤ length file)
IsSafeShape reads start (Made size) = (start < size) × IfSome reads (λ file. size ≡ length file)
