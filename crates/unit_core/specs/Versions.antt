-- The versions of blocks that a unit needs: those that are current, and those that live tokens show
use Rattle.std.specs.Prelude.{ℕ, List, [], ◌∷◌, ◌++◌, map, length, Option, Some, None, slice_get, Bool, false, ◌==◌, ◌&&◌, if◌then◌else◌}
use Rattle.cm_base.specs.declared.config.UnitConfig.{UnitConfig}
use Rattle.lba_ranges.specs.Denoted.{row, denotes}
use Rattle.lba_ranges.specs.Versions.{Version, writer_after, without_repeats}
use Rattle.cm_history.specs.Deeds.{Deed}
use Rattle.cm_history.specs.Tokens.{Token, tokens, is_live}

-- the place of the deed that last wrote a block, or `None` where that is unmapped
abbrev pub last_writer : List Deed → ℕ → Option ℕ
last_writer [] block = None
last_writer (d ∷ past) block = writer_after d.wrote d.place block (last_writer past block)

-- the blocks as they stand, or as the live token of a serial shows them
pub data Sight : Type 0 where
  Now : Sight
  ByToken : ℕ → Sight

-- a token shows the blocks of its ranges as they stood before its Populate
abbrev pub writer_shown : Option Token → ℕ → Option ℕ
writer_shown None block = None
writer_shown (Some t) block = if is_live t.fate && denotes t.ranges block then last_writer t.before block else None

-- the place of the deed that wrote what is seen of a block, or `None` where that is nothing
abbrev pub writer_seen : List Deed → Sight → ℕ → Option ℕ
writer_seen past Now block = last_writer past block
writer_seen past (ByToken serial) block = writer_shown (slice_get (tokens past) serial) block

-- what is current, and what the tokens show, of which so many were made
abbrev pub sights : ℕ → List Sight
sights made = Now ∷ map ByToken (row 0 made)

abbrev pub with_version : ℕ → Option ℕ → List Version → List Version
with_version block None vs = vs
with_version block (Some place) vs = record { block = block; put = place } ∷ vs

-- the versions of these blocks, each by the place of the deed that wrote it
abbrev pub versions : (ℕ → Option ℕ) → List ℕ → List Version
versions writer [] = []
versions writer (block ∷ blocks) = with_version block (writer block) (versions writer blocks)

abbrev pub seen_versions : (Sight → ℕ → Option ℕ) → List ℕ → List Sight → List Version
seen_versions seen blocks [] = []
seen_versions seen blocks (sight ∷ more) = versions (seen sight) blocks ++ seen_versions seen blocks more

-- the versions that are current, or that a live token shows, each once
abbrev pub needed : UnitConfig → List Deed → List Version
needed unit past = without_repeats (seen_versions (writer_seen past) (row 0 unit.blocks) (sights (length (tokens past))))

-- ---- which of them are the same

-- one put wrote both
abbrev pub same_put : Option ℕ → Option ℕ → Bool
same_put (Some a) (Some b) = a == b
same_put _ _ = false

-- what the two see of the block is one version
abbrev pub shares : (Sight → ℕ → Option ℕ) → Sight → Sight → ℕ → Bool
shares seen one other block = same_put (seen one block) (seen other block)

-- for each two of the sights, whether it is so of each of the first blocks
abbrev pub shares_table : ℕ → ℕ → (Sight → Sight → ℕ → Bool) → List (List (List Bool))
shares_table blocks made same = map (λ one. map (λ other. map (same one other) (row 0 blocks)) (sights made)) (sights made)
