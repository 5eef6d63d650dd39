use Rattle.std.proofs.Common.{◌≡◌, ℕ, ◌<◌, ◌≤◌, arith, false, refl}
use Rattle.std.specs.Prelude.{Option, Some, None, IsSome}
use Rattle.std.specs.Ordering.{nat_cmp, is_gt, is_lt}
use Rattle.std.proofs.lemmas.Bool.Decides.{nat_tests}
use Rattle.lba_ranges.specs.declared.fill.Piece.{Piece}
use Rattle.lun_extents.specs.Extents.{stored}
use Rattle.lun_extents.proofs.map.nearest.Goals as goal

-- no extent begins above the last one
absent : (last b : ℕ) (found : Option Piece) → (IsSome found → is_lt (nat_cmp last b) ≡ false) → last < b → found ≡ None
absent last b None least low = refl
absent last b (Some extent) least low = let no = least refl in absurd (grind (arith, nat_tests))

not_above : (a b : ℕ) → a ≤ b → is_gt (nat_cmp a b) ≡ false
not_above a b h = grind (arith, nat_tests)

pub returns-in-Some-clause-above : goal.returns-in-Some-clause-above
returns-in-Some-clause-above c =
    λ b low high.
    let range = c.range.ensures.in_range tt in
    absent c.in-Some.first.now b (stored c.args.map.now.entries b)
    (λ some. range.4 _ _ c.in-Some.ensures.steps b (tt, not_above b c.args.block high) some) low
