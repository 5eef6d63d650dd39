-- Tokens whose blocks are shown by pins
use Rattle.std.specs.Prelude.{◌≡◌, ℕ, List, map, Option, Some, None, true}
use Rattle.lba_ranges.specs.declared.ranges.Range.{Range}
use Rattle.lba_ranges.specs.Denoted.{blocks_of, denotes, is_within}
use Rattle.lba_ranges.specs.HeldBlocks.{HeldBlocks}
use Rattle.lba_ranges.specs.Writings.{Held}
use Rattle.rod_store.specs.declared.kept.Kept.{Kept}
use Rattle.rod_store.specs.Kept.{value_at}
use Rattle.rod_store.specs.Store.{Store, store_with}
use Rattle.rod_store.specs.declared.pinned_rod.PinnedRod.{PinnedRod}

-- ---- what pins show

module _ {P : Type 0} (number : P → ℕ) where
  -- the blocks of a token, each of so many bytes, as its pin shows them
  abbrev pub rod_shown : ℕ → (ℕ → ℕ → Held) → PinnedRod P → HeldBlocks
  rod_shown size shown rod = record { block_length = size; items = map (shown (number rod.pin)) (blocks_of rod.ranges) }

  -- the tokens with these blocks
  abbrev pub rods_of : ℕ → (ℕ → ℕ → Held) → Store (PinnedRod P) → Store HeldBlocks
  rods_of size shown store = store_with (rod_shown size shown) store

-- the blocks of the ranges as they stand
abbrev pub rod_now : ℕ → (ℕ → Held) → List Range → HeldBlocks
rod_now size holds ranges = record { block_length = size; items = map holds (blocks_of ranges) }

-- ---- which pins are live

-- what the token of a serial stands for while it is live; beside the tokens one more pin may be live
abbrev pub holder : {P : Type 0} → Option (PinnedRod P) → List (Kept (PinnedRod P)) → Option ℕ → Option (PinnedRod P)
holder spare tokens None = spare
holder spare tokens (Some serial) = value_at serial tokens

-- the pin of this number is held
pub record IsHeld {P : Type 0} (number : P → ℕ) (own : Option ℕ → Option (PinnedRod P)) (n : ℕ) : Type 0 where
  pub by : Option ℕ
  pub rod : PinnedRod P
  pub held : own by ≡ Some rod
  pub is : number rod.pin ≡ n

-- each holder has a live pin of its own, and all live pins are held
pub record ArePinned {P : Type 0} (number : P → ℕ) (blocks : ℕ) (pinned : ℕ → Option (List Range)) (own : Option ℕ → Option (PinnedRod P)) : Type 0 where
  pub live : (at : Option ℕ) (rod : PinnedRod P) → own at ≡ Some rod → pinned (number rod.pin) ≡ Some rod.ranges
  pub within : (at : Option ℕ) (rod : PinnedRod P) → own at ≡ Some rod → is_within blocks rod.ranges ≡ true
  pub apart : (at other : Option ℕ) (rod its : PinnedRod P) → own at ≡ Some rod → own other ≡ Some its → number rod.pin ≡ number its.pin → at ≡ other
  pub held : (n : ℕ) (ranges : List Range) → pinned n ≡ Some ranges → IsHeld number own n

-- a pin that is live now was live before with these ranges, and shows what it showed
abbrev pub ShowSame : (ℕ → Option (List Range)) → (ℕ → ℕ → Held) → (ℕ → Option (List Range)) → (ℕ → ℕ → Held) → Type 0
ShowSame pinned shown pinned_now shown_now =
    (n : ℕ) (ranges : List Range) (block : ℕ) → pinned_now n ≡ Some ranges → denotes ranges block ≡ true → (pinned n ≡ Some ranges) × (shown_now n block ≡ shown n block)
