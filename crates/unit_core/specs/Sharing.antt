-- Which of the versions that blocks keep are the same
use Rattle.std.specs.Prelude.{◌≡◌, ◌<◌, ℕ, List, Option, Some, None, Bool, true}
use Rattle.lba_ranges.specs.declared.ranges.Range.{Range}
use Rattle.lba_ranges.specs.Denoted.{denotes}
use Rattle.lba_ranges.specs.Versions.{Writers}
use Rattle.unit_core.specs.Versions.{same_put}

-- What is current of a block, or what the pin of a number shows of it; a pin shows blocks while it is live, and those of
-- its ranges alone.

abbrev pub put_of : Writers → Option ℕ → ℕ → Option ℕ
put_of w None block = w.now block
put_of w (Some pin) block = w.shown pin block

abbrev pub IsSeenBy : (ℕ → Option (List Range)) → Option ℕ → ℕ → Type 0
IsSeenBy pins None block = Unit {0}
IsSeenBy pins (Some pin) block = (ranges : List Range) × (pins pin ≡ Some ranges) × (denotes ranges block ≡ true)

-- two of the versions of a block are one where one of these puts wrote both
abbrev pub AreShared : ℕ → (ℕ → Option (List Range)) → (Option ℕ → Option ℕ → ℕ → Bool) → Writers → Type 0
AreShared blocks pins shares w =
    (one other : Option ℕ) (block : ℕ) → block < blocks → IsSeenBy pins one block → IsSeenBy pins other block
    → same_put (put_of w one block) (put_of w other block) ≡ shares one other block
