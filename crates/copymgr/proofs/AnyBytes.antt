use Rattle.std.proofs.Common.{ℕ, List, refl, arith}
use Rattle.journal_disk.specs.Disk.{Torn}

-- a write that left all as it was
pub torn-same : (at n : ℕ) (c : List ℕ) → Torn at n c c
torn-same at n c = record { before = refl; after = refl; no_shorter = omega arith; no_longer = grind arith }
