use Rattle.std.proofs.Common.{◌≡◌, ℕ, ◌<◌, ◌≤◌, arith, refl, false}
use Rattle.std.specs.Prelude.{Option, Some, None, IsSome}
use Rattle.std.specs.Ordering.{nat_cmp, is_gt}
use Rattle.std.proofs.lemmas.Bool.Decides.{nat_tests}
use Rattle.std.proofs.lemmas.Map.Keys.{le_from_not_gt}
use Rattle.lba_ranges.specs.declared.fill.Piece.{Piece}
use Rattle.lun_extents.specs.Extents.{stored}
use Rattle.lun_extents.proofs.map.next_first.Goals as goal

-- no extent begins below the first
absent : (first b : ℕ) (found : Option Piece) → (IsSome found → is_gt (nat_cmp first b) ≡ false) → b < first → found ≡ None
absent first b None least low = refl
absent first b (Some extent) least low = absurd (omega (arith, le_from_not_gt first b (least refl)))

not_above : (a b : ℕ) → a ≤ b → is_gt (nat_cmp a b) ≡ false
not_above a b h = grind (arith, nat_tests)

pub returns-in-Some-clause-before : goal.returns-in-Some-clause-before
returns-in-Some-clause-before c =
    λ b low high.
    let range = c.range.ensures.in_range tt in
    absent c.in-Some.first.now b (stored c.args.map.now.entries b)
    (λ some. rw c.in-Some.ensures.steps at (range.2 b (not_above c.args.from b low, tt) some)) high
