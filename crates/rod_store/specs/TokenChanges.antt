-- What is to be changed in the tokens
use Rattle.std.specs.Prelude.{◌≡◌, ℕ, ◌<◌, ◌≤◌, ◌^◌, List, length, Option, Some, None, IsSome, Bool, true, false, ⊤}
use Rattle.lba_ranges.specs.declared.ranges.Range.{Range}
use Rattle.lba_ranges.specs.Denoted.{is_within, is_overlapping}
use Rattle.lba_ranges.specs.HeldBlocks.{HeldBlocks}
use Rattle.lba_ranges.specs.Versions.{Writers, with_pin}
use Rattle.rod_store.specs.declared.kept.Kept.{Kept}
use Rattle.rod_store.specs.Kept.{value_at, expired, populated, used, deleted}
use Rattle.rod_store.specs.Store.{Store}
use Rattle.rod_store.specs.declared.pinned_rod.PinnedRod.{PinnedRod}
use Rattle.rod_store.specs.declared.pinned_change.PinnedChange.{PinnedChange}
use Rattle.rod_store.specs.declared.token_change.TokenChange.{TokenChange}
use Rattle.rod_store.specs.declared.token_change.TokenChange.TheVariants.{Nothing, Make, Use, Delete}

-- the tokens at the moment, with the change; a new one stands for the blocks of its ranges as this function tells them
abbrev pub tokens_after : {T : Type 0} → (List Range → T) → TokenChange → ℕ → List (Kept T) → List (Kept T)
tokens_after cut Nothing moment tokens = expired moment tokens
tokens_after cut (Make timeout blocks ranges) moment tokens = populated (expired moment tokens) moment timeout blocks (cut ranges)
tokens_after cut (Use serial) moment tokens = used serial moment (expired moment tokens)
tokens_after cut (Delete serial) moment tokens = deleted serial (expired moment tokens)

abbrev pub is_make : TokenChange → Bool
is_make (Make timeout blocks ranges) = true
is_make _ = false

-- the ranges of a token that is to be made can be pinned, in a unit of so many blocks
abbrev pub MayPin : ℕ → TokenChange → Type 0
MayPin count (Make timeout blocks ranges) = (is_within count ranges ≡ true) × (is_overlapping ranges ≡ false)
MayPin count _ = ⊤

-- the change may be made at the moment; a token that is used lives on at it
abbrev pub MayToken : {T : Type 0} → Store T → ℕ → TokenChange → Type 0
MayToken store moment Nothing = ⊤
MayToken store moment (Make timeout blocks ranges) = (1 ≤ store.spare) × (length store.tokens < 2 ^ 48)
MayToken store moment (Use serial) = IsSome (value_at serial (expired moment store.tokens))
MayToken store moment (Delete serial) = ⊤

-- ---- the same with the pin that a new token has

abbrev pub unpinned : {P : Type 0} → PinnedChange P → TokenChange
unpinned PinnedChange.Nothing = Nothing
unpinned (PinnedChange.Make timeout blocks rod) = Make timeout blocks rod.ranges
unpinned (PinnedChange.Use serial) = Use serial
unpinned (PinnedChange.Delete serial) = Delete serial

-- what the new token stands for, if one is made
abbrev pub rod_made : {P : Type 0} → PinnedChange P → Option (PinnedRod P)
rod_made (PinnedChange.Make timeout blocks rod) = Some rod
rod_made _ = None

-- the pin of a new token shows what is current
abbrev pub written_with : {P : Type 0} → (P → ℕ) → PinnedChange P → Writers → Writers
written_with number (PinnedChange.Make timeout blocks rod) w = with_pin (number rod.pin) w
written_with number _ w = w

-- the ranges of the token that is to be made, if one is
abbrev pub ranges_pinned : TokenChange → Option (List Range)
ranges_pinned (Make timeout blocks ranges) = Some ranges
ranges_pinned _ = None

-- the tokens at the moment, with the change and the pin of a new one
abbrev pub pinned_after : {P : Type 0} → PinnedChange P → ℕ → List (Kept (PinnedRod P)) → List (Kept (PinnedRod P))
pinned_after PinnedChange.Nothing moment tokens = expired moment tokens
pinned_after (PinnedChange.Make timeout blocks rod) moment tokens = populated (expired moment tokens) moment timeout blocks rod
pinned_after (PinnedChange.Use serial) moment tokens = used serial moment (expired moment tokens)
pinned_after (PinnedChange.Delete serial) moment tokens = deleted serial (expired moment tokens)
