-- What is to be written to blocks
use Rattle.std.specs.Prelude.{◌≡◌, ℕ, List, [], length, Bool, true, false, ⊤}
use Rattle.lba_ranges.specs.declared.ranges.Range.{Range}
use Rattle.lba_ranges.specs.HeldBlocks.{HeldBlocks}
use Rattle.lba_ranges.specs.Denoted.{blocks_of, total, is_within, is_overlapping}
use Rattle.lba_ranges.specs.Writings.{Writing, paired, unmapped}
use Rattle.unit_core.specs.declared.block_change.BlockChange.{BlockChange}
use Rattle.unit_core.specs.declared.block_change.BlockChange.TheVariants.{Nothing, Put, PutPiece, Clear}

abbrev pub writings_of : BlockChange → List Writing
writings_of Nothing = []
writings_of (Put ranges list) = paired (blocks_of ranges) list.now.items
writings_of (PutPiece ranges list) = paired (blocks_of ranges) list.items
writings_of (Clear ranges) = unmapped (blocks_of ranges.now)

-- a list that may be put to ranges of so many blocks of this size
pub record MayPut (blocks size : ℕ) (ranges : List Range) (list : HeldBlocks) : Type 0 where
  pub within : is_within blocks ranges ≡ true
  pub apart : is_overlapping ranges ≡ false
  pub total : total ranges ≡ length list.items
  pub alike : list.block_length ≡ size

abbrev pub MayChange : ℕ → ℕ → BlockChange → Type 0
MayChange blocks size Nothing = ⊤
MayChange blocks size (Put ranges list) = MayPut blocks size ranges list.now
MayChange blocks size (PutPiece ranges list) = MayPut blocks size ranges list
MayChange blocks size (Clear ranges) = is_within blocks ranges.now ≡ true

abbrev pub is_nothing : BlockChange → Bool
is_nothing Nothing = true
is_nothing _ = false
