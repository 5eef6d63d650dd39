-- Blocks that are kept in a map
use Rattle.std.specs.Prelude.{◌≡◌, ℕ, ◌<◌, ◌≤◌, List, [], ◌∷◌, length, Option, Some, None, Bool, ◌==◌}
use Rattle.std.specs.List.{list_any}
use Rattle.lun_plain.specs.Plain.{stored}

-- every block that is stored is one of the unit's, and has its length
pub record IsPlain (blocks block_length : ℕ) (entries : List (ℕ × List ℕ)) : Type 0 where
  pub some : 1 ≤ block_length
  pub below : (block : ℕ) (bytes : List ℕ) → stored entries block ≡ Some bytes → block < blocks
  pub sized : (block : ℕ) (bytes : List ℕ) → stored entries block ≡ Some bytes → length bytes ≡ block_length

-- room that no bytes were put into yet holds nothing
abbrev pub seen : Option (List ℕ) → Option (List ℕ)
seen None = None
seen (Some []) = None
seen (Some (byte ∷ bytes)) = Some (byte ∷ bytes)

-- the block is in the list
abbrev pub is_among : ℕ → List ℕ → Bool
is_among block blocks = list_any (λ b. b == block) blocks
