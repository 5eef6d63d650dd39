-- What a journal tells of its entries, and which entry it may record next
use Rattle.std.specs.Prelude.{◌≡◌, ◌⊎◌, ◌<◌, ◌≤◌, ◌^◌, ℕ, zero, suc, ◌+◌, List, [], ◌∷◌, ◌++◌, length, take, drop, Option, Some, None, option_map, if◌then◌else◌, ◌==◌}
use Rattle.byteorder.specs.Endian.{big_from}
use Rattle.cm_history.specs.declared.act.Entry.{Entry}
use Rattle.recorder.specs.Text.{entry_bytes}
use Rattle.journal_disk.specs.Opened.{open_gate, entry_in}
use Rattle.journal_disk.specs.Log.{Holds, HoldsFirst, IsKept}
use Rattle.journal_disk.specs.declared.log.Log.{Log}

-- the records behind open gates at the front of some bytes, at most `n`
abbrev pub payloads_within : ℕ → List ℕ → List (List ℕ)
payloads_within zero bytes = []
payloads_within (suc n) [] = []
payloads_within (suc n) (gate ∷ rest) =
    if gate == open_gate then take (big_from 0 8 rest) (drop 8 rest) ∷ payloads_within n (drop (8 + big_from 0 8 rest) rest)
    else []

abbrev pub payloads_in : List ℕ → List (List ℕ)
payloads_in bytes = payloads_within (length bytes) bytes

abbrev pub if_spelled : Option Entry → List Entry → List Entry
if_spelled None es = es
if_spelled (Some e) es = e ∷ es

-- the entries that the records spell
abbrev pub entries_of : List (List ℕ) → List Entry
entries_of [] = []
entries_of (p ∷ ps) = if_spelled (entry_in p) (entries_of ps)

-- the entries of the records between the front and the last gate, where the file is told
abbrev pub recorded_in : ℕ → ℕ → Option (List ℕ) → Option (List Entry)
recorded_in start gate reads = option_map (λ file. entries_of (payloads_in (drop start (take gate file)))) reads

-- What a journal keeps for its life, where the file is told: the moment at which its first sync ended, how many entries it
-- had then, and the bytes before its records.
abbrev pub life_in : ℕ → ℕ → ℕ → Option (List ℕ) → Option (List ℕ)
life_in since first start reads = option_map (λ file. since ∷ first ∷ take start file) reads

-- the bytes spell the entry, and eight bytes can hold their length
abbrev pub IsTextOf : List ℕ → Entry → Type 0
IsTextOf payload e = (length payload < 2 ^ 64) × (entry_in payload ≡ Some e)

-- each of the records spells an entry
abbrev pub AreTexts : List (List ℕ) → Type 0
AreTexts [] = Unit {0}
AreTexts (p ∷ ps) = ((e : Entry) × IsTextOf p e) × AreTexts ps

-- Each file that a crash left since the first sync of a journal ended has the first of these records, as many at least as it
-- had then; or all of them, and one more, which is that of this entry.
pub record WasKept {D : Type 0} (moment : D → ℕ) (left_since : D → ℕ → List ℕ → Type 0) (log : Log D) (front : List ℕ) (ps : List (List ℕ)) (e : Entry) : Type 0 where
  pub later : moment log.opening.synced.value ≤ moment log.disk
  pub enough : log.opening.entries.value ≤ length ps
  pub each : (c : List ℕ) → left_since log.disk (moment log.opening.synced.value) c
      → HoldsFirst front log.opening.entries.value ps c ⊎ (IsTextOf (entry_bytes e) e × Holds front (ps ++ (entry_bytes e ∷ [])) c)

-- the journal is kept, was kept at each moment, and of no other entry than this the opening was begun
pub record IsReady {D : Type 0} (reads : D → Option (List ℕ)) (may_leave : D → List ℕ → Type 0) (moment : D → ℕ) (left_since : D → ℕ → List ℕ → Type 0) (log : Log D) (e : Entry) : Type 0 where
  pub front : List ℕ
  pub ps : List (List ℕ)
  pub last : Option (List ℕ)
  pub kept : IsKept reads may_leave front ps last log
  pub start : log.start ≡ length front
  pub texts : AreTexts ps
  pub same : (last ≡ None) ⊎ ((last ≡ Some (entry_bytes e)) × IsTextOf (entry_bytes e) e)
  pub past : WasKept moment left_since log front ps e

-- the entry may be recorded next: the disk tells nothing, or the journal is ready for it
abbrev pub IsFit : {D : Type 0} → (D → Option (List ℕ)) → (D → List ℕ → Type 0) → (D → ℕ) → (D → ℕ → List ℕ → Type 0) → Log D → Entry → Type 0
IsFit reads may_leave moment left_since log e = (reads log.disk ≡ None) ⊎ IsReady reads may_leave moment left_since log e
