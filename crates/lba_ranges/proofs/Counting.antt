-- How many blocks are mapped, one range after the other
use Rattle.std.proofs.Common.{◌≡◌, ℕ, ◌+◌, ◌≤◌, ◌++◌, List, take, drop, ap, sym, ◌∙◌, arith, true, false}
use Rattle.std.specs.Prelude.{slice_get, Some}
use Rattle.std.proofs.lemmas.List.{take-append-drop}
use Rattle.lba_ranges.specs.declared.ranges.Range.{Range}
use Rattle.lba_ranges.specs.Denoted.{row, blocks_of, is_within, is_overlapping}
use Rattle.lba_ranges.specs.Writings.{Held, mapped_below, mapped_among}
use Rattle.lba_ranges.proofs.Rows.{blocks_of-append, blocks_of-below, blocks_of-get}
use Rattle.lba_ranges.proofs.WritingLemmas.{among-append, among-le}

-- one more range
pub among-next : (held : ℕ → Held) (rs : List Range) (k : ℕ) (r : Range) → slice_get rs k ≡ Some r
    → mapped_among held (blocks_of (take (k + 1) rs)) ≡ mapped_among held (blocks_of (take k rs)) + mapped_among held (row r.lba r.count)
among-next held rs k r found = ap (mapped_among held) (blocks_of-get rs k r found) ∙ among-append held (blocks_of (take k rs)) (row r.lba r.count)

-- no more blocks are mapped in the first ranges and the next one than in the unit
pub among-enough : (n : ℕ) (held : ℕ → Held) (rs : List Range) (k : ℕ) (r : Range) → is_within n rs ≡ true → is_overlapping rs ≡ false → slice_get rs k ≡ Some r
    → mapped_among held (blocks_of (take k rs)) + mapped_among held (row r.lba r.count) ≤ mapped_below n held
among-enough n held rs k r within apart found =
    let front = blocks_of (take (k + 1) rs) in
    let back = blocks_of (drop (k + 1) rs) in
    let whole : front ++ back ≡ blocks_of rs = sym (blocks_of-append (take (k + 1) rs) (drop (k + 1) rs)) ∙ ap blocks_of (take-append-drop (k + 1) rs) in
    let split = sym (ap (mapped_among held) whole) ∙ among-append held front back in
    omega (arith, split, among-next held rs k r found, among-le n held (blocks_of rs) apart (blocks_of-below n rs within))
