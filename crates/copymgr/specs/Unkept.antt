-- Which bytes of a file the host may have dropped
use Rattle.std.specs.Prelude.{ℕ, ◌≤◌, ◌<◌}
use Rattle.copymgr.specs.declared.unkept.Span.{Span}

-- the byte at this place is one of these
abbrev pub Among : Span → ℕ → Type 0
Among span place = (span.from ≤ place) × (place < span.end)
