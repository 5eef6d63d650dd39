-- A unit's blocks with their versions and pins, as contracts see them
use Rattle.std.specs.Prelude.{◌≡◌, ℕ, ◌<◌, ◌+◌, List, Option, Some, false, true, ◌^◌}
use Rattle.slab.specs.Slab.{get}
use Rattle.lba_ranges.specs.Denoted.{is_within, is_overlapping}
use Rattle.lba_ranges.specs.Versions.{Version, Writers, AreKept}
use Rattle.lba_ranges.specs.Writings.{Held}
use Rattle.lba_ranges.specs.declared.ranges.Range.{Range}
use Rattle.lun_versions.specs.declared.pinned.Pinned.{Pinned}
use Rattle.lun_versions.specs.Chains.{shown_at}
use Rattle.lun_versions.specs.Segments.{chain_in, EarlierBlocks}
use Rattle.lun_versions.specs.Units.{ranges_of}
use Rattle.lun_versions.specs.Versioned.{Versioned, holds, chain, shown_by}
use Rattle.lun_versions.specs.inner.Chains.{kept_below}
use Rattle.lun_versions.specs.inner.Segments.{AreEven}
use Rattle.lun_versions.specs.inner.Units.{AreVersions}

-- the ranges of a live pin
abbrev pub pinned : Versioned → ℕ → Option (List Range)
pinned u pin = ranges_of (get u.pins) pin

-- what a pin of this time shows of a block
abbrev pub shown_then : Versioned → ℕ → ℕ → Held
shown_then u time block = shown_at (chain u block) time (holds u block)

-- what a live pin shows of a block
abbrev pub shown : Versioned → ℕ → ℕ → Held
shown u pin block = shown_by (get u.pins pin) (chain u block) (holds u block)

-- the versions that are current or that a live pin shows, each once
abbrev pub AreStored : Versioned → Writers → List Version → Type 0
AreStored u w vs = AreKept u.current.blocks (pinned u) w vs

-- each earlier version is shown by a live pin, and each live pin lies within the unit
pub record IsSound (blocks size made : ℕ) (own : EarlierBlocks) (pins : ℕ → Option Pinned) : Type 0 where
  pub versions : AreVersions blocks made (chain_in own.entries) pins
  pub even : AreEven pins own.entries
  pub ranges : (pin : ℕ) (p : Pinned) → pins pin ≡ Some p → (is_within blocks p.ranges ≡ true) × (is_overlapping p.ranges ≡ false)
  pub same_blocks : own.blocks ≡ blocks
  pub same_length : own.block_length ≡ size
  pub fits : kept_below blocks (chain_in own.entries) + blocks < 2 ^ 64
