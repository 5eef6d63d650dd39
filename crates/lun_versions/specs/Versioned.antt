-- A unit's blocks with their versions and pins, as contracts see them
use Rattle.std.specs.Prelude.{ℕ, List, Option, Some, None}
use Rattle.slab.specs.Slab.{Slab, get}
use Rattle.lba_ranges.specs.Versions.{Writers}
use Rattle.lba_ranges.specs.Writings.{Held}
use Rattle.lun_extents.specs.Extents.{Extents, held_in}
use Rattle.lun_versions.specs.declared.pinned.Pinned.{Pinned}
use Rattle.lun_versions.specs.Chains.{Slot, shown_at}
use Rattle.lun_versions.specs.Segments.{chain_in, EarlierBlocks}
use Rattle.lun_versions.specs.Units.{AreWrittenBy}

-- the current blocks, their earlier versions, the live pins, and how many pins were made
pub record Versioned : Type 0 where
  pub current : Extents
  pub earlier : EarlierBlocks
  pub pins : Slab Pinned
  pub made : ℕ

-- what a block holds
abbrev pub holds : Versioned → ℕ → Held
holds u block = held_in u.current.block_length u.current.entries block

-- its earlier versions
abbrev pub chain : Versioned → ℕ → List Slot
chain u block = chain_in u.earlier.entries block

-- what a live pin shows of a block with these earlier versions, which now holds so
abbrev pub shown_by : Option Pinned → List Slot → Held → Held
shown_by None slots now = None
shown_by (Some p) slots now = shown_at slots p.time now

-- the versions may have been written by these puts
abbrev pub WrittenBy : Versioned → Writers → Type 0
WrittenBy u w = AreWrittenBy u.current.blocks (chain u) (holds u) (get u.pins) w
