-- Versions of blocks, each named by the put that wrote it
use Rattle.std.specs.Prelude.{◌≡◌, ◌⊎◌, ℕ, ◌<◌, List, [], ◌∷◌, Option, Some, None, is_some, Bool, true, ◌==◌, ◌&&◌, if◌then◌else◌}
use Rattle.std.specs.List.{list_any}
use Rattle.lba_ranges.specs.declared.ranges.Range.{Range}
use Rattle.lba_ranges.specs.Denoted.{denotes}
use Rattle.lba_ranges.specs.Writings.{Held, Writing, after, is_written}

-- what a mapped block held from a put on, until it was written again
pub record Version : Type 0 where
  pub block : ℕ
  pub put : ℕ

-- both are of the same block and the same put
abbrev pub same_version : Version → Version → Bool
same_version a b = (a.block == b.block) && (a.put == b.put)

-- the list has the version
abbrev pub is_listed : List Version → Version → Bool
is_listed vs v = list_any (same_version v) vs

-- each version once, the last of those that are the same
abbrev pub without_repeats : List Version → List Version
without_repeats [] = []
without_repeats (v ∷ vs) = if is_listed vs v then without_repeats vs else v ∷ without_repeats vs

-- the put that wrote what a block holds, and what the pin of a number shows of it; `None` where that is unmapped
pub record Writers : Type 0 where
  pub now : ℕ → Option ℕ
  pub shown : ℕ → ℕ → Option ℕ

-- nothing was written yet
abbrev pub no_writers : Writers
no_writers = record { now = λ block. None; shown = λ pin block. None }

-- a live pin shows the version; the live pins are told by their ranges
pub record IsShown (pins : ℕ → Option (List Range)) (w : Writers) (v : Version) : Type 0 where
  pub pin : ℕ
  pub ranges : List Range
  pub live : pins pin ≡ Some ranges
  pub denoted : denotes ranges v.block ≡ true
  pub put : w.shown pin v.block ≡ Some v.put

-- the version is current, or a live pin shows it
abbrev pub IsKept : ℕ → (ℕ → Option (List Range)) → Writers → Version → Type 0
IsKept blocks pins w v = ((v.block < blocks) × (w.now v.block ≡ Some v.put)) ⊎ IsShown pins w v

-- the list has the versions that are current or that a live pin shows, and no others
pub record AreKept (blocks : ℕ) (pins : ℕ → Option (List Range)) (w : Writers) (vs : List Version) : Type 0 where
  pub all : (v : Version) → IsKept blocks pins w v → is_listed vs v ≡ true
  pub only : (v : Version) → is_listed vs v ≡ true → IsKept blocks pins w v

-- no version that is kept was written by this put
abbrev pub IsNew : ℕ → (ℕ → Option (List Range)) → Writers → ℕ → Type 0
IsNew blocks pins w put = (block : ℕ) → IsKept blocks pins w (record { block = block; put = put }) → ⊥

-- who wrote what a block holds after the writings of this put
abbrev pub writer_after : List Writing → ℕ → ℕ → Option ℕ → Option ℕ
writer_after ws put block was = if is_written ws block then (if is_some (after ws block None) then Some put else None) else was

-- the writings were made by this put
abbrev pub with_put : List Writing → ℕ → Writers → Writers
with_put ws put w = record w { now = λ block. writer_after ws put block (w.now block) }

-- the pin of this number shows what is current
abbrev pub with_pin : ℕ → Writers → Writers
with_pin pin w = record w { shown = λ other block. if other == pin then w.now block else w.shown other block }

-- the pin of this number has these ranges, or is live no more
abbrev pub with_ranges : ℕ → Option (List Range) → (ℕ → Option (List Range)) → ℕ → Option (List Range)
with_ranges pin ranges pins other = if other == pin then ranges else pins other

-- the same pins are live, and each shows what it showed
pub record PinsStay (pins : ℕ → Option (List Range)) (shown : ℕ → ℕ → Held) (pins_now : ℕ → Option (List Range)) (shown_now : ℕ → ℕ → Held) : Type 0 where
  pub live : (pin : ℕ) → pins_now pin ≡ pins pin
  pub shows : (pin : ℕ) (ranges : List Range) (block : ℕ) → pins pin ≡ Some ranges → denotes ranges block ≡ true → shown_now pin block ≡ shown pin block

-- the writers are the same of what is current and of what the live pins show
pub record AgreeOn (pins : ℕ → Option (List Range)) (w v : Writers) : Type 0 where
  pub now : (block : ℕ) → v.now block ≡ w.now block
  pub shown : (pin : ℕ) (ranges : List Range) (block : ℕ) → pins pin ≡ Some ranges → denotes ranges block ≡ true → v.shown pin block ≡ w.shown pin block
