use Rattle.std.proofs.Common.{◌≡◌, length, ℕ, Option}
use Rattle.lba_ranges.specs.Versions.{Writers}
use Rattle.rod_store.specs.Kept.{expired, live}
use Rattle.rod_store.specs.declared.pinned_rod.PinnedRod.{PinnedRod}
use Rattle.rod_store.specs.Pinning.{holder, ArePinned, ShowSame}
use Rattle.rod_store.proofs.pinned_change.expire_all.Given as goal

abbrev pub invariant-loop-rod : goal.invariant-loop-rod
invariant-loop-rod g l =
    (expired l.moment l.tokens.tokens ≡ expired l.moment l.initial.tokens.tokens)
    × (l.tokens.unit ≡ l.initial.tokens.unit)
    × (l.tokens.spare ≡ l.initial.tokens.spare)
    × (g.B.Blocks.blocks l.blocks ≡ g.B.Blocks.blocks l.initial.blocks)
    × (g.B.Blocks.block_length l.blocks ≡ g.B.Blocks.block_length l.initial.blocks)
    × ((block : ℕ) → g.B.Blocks.holds l.blocks block ≡ g.B.Blocks.holds l.initial.blocks block)
    × ShowSame (g.B.Blocks.pinned l.initial.blocks) (g.B.Blocks.shown l.initial.blocks) (g.B.Blocks.pinned l.blocks) (g.B.Blocks.shown l.blocks)
    × ((spare : Option (PinnedRod _)) → ArePinned g.B.Pins.number (g.B.Blocks.blocks l.initial.blocks) (g.B.Blocks.pinned l.initial.blocks) (holder spare l.initial.tokens.tokens)
    → ArePinned g.B.Pins.number (g.B.Blocks.blocks l.blocks) (g.B.Blocks.pinned l.blocks) (holder spare l.tokens.tokens))
    × ((w : Writers) → g.B.Blocks.written_by l.initial.blocks w → g.B.Blocks.written_by l.blocks w)

abbrev pub decreases-loop-rod : goal.decreases-loop-rod
decreases-loop-rod g l = length (live l.tokens.tokens)
