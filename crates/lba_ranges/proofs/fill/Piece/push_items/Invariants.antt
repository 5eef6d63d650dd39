use Rattle.std.proofs.Common.{◌≡◌, ◌++◌, take}
use Rattle.lba_ranges.specs.HeldBlocks.{filled}
use Rattle.lba_ranges.proofs.fill.Piece.push_items.Given as goal

abbrev pub invariant-loop-index : goal.invariant-loop-index
invariant-loop-index l = l.items.items ≡ l.initial.items.items ++ take l.index (filled l.size l.self.count l.self.fill)
