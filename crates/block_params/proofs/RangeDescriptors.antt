-- Range descriptors, one after the other
use Rattle.std.proofs.Common.{◌≡◌, ℕ, zero, suc, ◌+◌, ◌*◌, List, [], ◌∷◌, ◌++◌, length, drop, refl, ap, ◌∙◌, arith}
use Rattle.byteorder.specs.Endian.{big_from}
use Rattle.cm_base.proofs.PublicLaws.{field-moved}
use Rattle.lba_ranges.specs.declared.ranges.Range.{Range}
use Rattle.block_params.specs.RangesRead.{ranges_in}

pub length-ranges_in : (n : ℕ) (bytes : List ℕ) → length (ranges_in n bytes) ≡ n
length-ranges_in zero bytes = refl
length-ranges_in (suc n) bytes = ap suc (length-ranges_in n (drop 16 bytes))

-- the range of the descriptor at a place
abbrev pub range_at : ℕ → List ℕ → Range
range_at at bytes = record { lba = big_from at 8 bytes; count = big_from (at + 8) 4 bytes }

range_at-drop : (at next : ℕ) (bytes : List ℕ) → next ≡ 16 + at → range_at at (drop 16 bytes) ≡ range_at next bytes
range_at-drop at next bytes is =
    let lba : big_from at 8 (drop 16 bytes) ≡ big_from next 8 bytes = field-moved at 8 16 bytes ∙ ap (λ j. big_from j 8 bytes) (omega arith) in
    let count : big_from (at + 8) 4 (drop 16 bytes) ≡ big_from (next + 8) 4 bytes = field-moved (at + 8) 4 16 bytes ∙ ap (λ j. big_from j 4 bytes) (omega arith) in
    ap (λ l. record { lba = l; count = big_from (at + 8) 4 (drop 16 bytes) }) lba ∙ ap (λ c. record { lba = big_from next 8 bytes; count = c }) count

-- one more descriptor
pub ranges_in-push : (n at : ℕ) (bytes : List ℕ) → at ≡ 16 * n → ranges_in (suc n) bytes ≡ ranges_in n bytes ++ range_at at bytes ∷ []
ranges_in-push zero at bytes is = ap (λ (a : ℕ). range_at a bytes ∷ []) (omega arith)
ranges_in-push (suc n) at bytes is =
    ap (λ l. range_at 0 bytes ∷ l)
    (ranges_in-push n (16 * n) (drop 16 bytes) refl ∙ ap (λ r. ranges_in n (drop 16 bytes) ++ r ∷ []) (range_at-drop (16 * n) at bytes (omega arith)))

pub ruleset range_steps = (ranges_in-push, length-ranges_in)
