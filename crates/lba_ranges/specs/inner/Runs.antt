-- Runs of blocks, one after the other
use Rattle.std.specs.Prelude.{◌≡◌, ℕ, ◌+◌, ◌<◌, ◌≤◌, List, [], ◌∷◌, length, slice_index_or}
use Rattle.lba_ranges.specs.declared.fill.Piece.{Piece}
use Rattle.lba_ranges.specs.declared.runs.PlacedPiece.{PlacedPiece}

-- what the runs hold
abbrev pub pieces_of : List PlacedPiece → List Piece
pieces_of [] = []
pieces_of (r ∷ rs) = r.piece ∷ pieces_of rs

-- each run begins where the one before it ends, the first at `start`, and the last one ends at `end`
abbrev pub Spans : ℕ → List PlacedPiece → ℕ → Type 0
Spans start [] end = start ≡ end
Spans start (r ∷ rs) end = (r.end ≡ start + r.piece.count) × Spans r.end rs end

-- no run before the k-th ends after the place, but that one does, if there is one
pub record IsFirstAfter (runs : List PlacedPiece) (place k : ℕ) : Type 0 where
  pub before : (i : ℕ) (d : PlacedPiece) → i < k → (slice_index_or runs i d).end ≤ place
  pub after : (d : PlacedPiece) → k < length runs → place < (slice_index_or runs k d).end

-- the run that ends so many blocks later
abbrev pub later : ℕ → PlacedPiece → PlacedPiece
later by r = record { end = r.end + by; piece = r.piece }
