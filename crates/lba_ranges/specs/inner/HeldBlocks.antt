-- What a list of blocks holds, block by block
use Rattle.std.specs.Prelude.{ℕ, List, [], ◌∷◌, ◌++◌, Option}
use Rattle.lba_ranges.specs.declared.fill.Piece.{Piece}
use Rattle.lba_ranges.specs.HeldBlocks.{IsFull, filled}

abbrev pub items_of : ℕ → List Piece → List (Option (List ℕ))
items_of size [] = []
items_of size (p ∷ ps) = filled size p.count p.fill ++ items_of size ps

abbrev pub AllFull : ℕ → List Piece → Type 0
AllFull size [] = Unit {0}
AllFull size (p ∷ ps) = IsFull size p.count p.fill × AllFull size ps
