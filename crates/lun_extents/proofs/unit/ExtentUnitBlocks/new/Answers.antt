use Rattle.std.proofs.Common.{◌≡◌, ℕ, sym, refl, rules, List, []}
use Rattle.std.specs.Prelude.{None}
use Rattle.lba_ranges.specs.declared.fill.Piece.{Piece}
use Rattle.lba_ranges.proofs.PublicLaws.{mapped-none}
use Rattle.lun_extents.specs.Extents.{stored, held_in}
use Rattle.lun_extents.specs.inner.Extents.{AreExtents}
use Rattle.lun_extents.proofs.Nearest.{from-none}
use Rattle.lun_extents.proofs.unit.ExtentUnitBlocks.new.Goals as goal

nothing : (size : ℕ) (es : List (ℕ × Piece)) → es ≡ [] → (b : ℕ) → held_in size es b ≡ None
nothing size es empty b = rw empty (from-none size (stored []) b 0 (λ j low. refl))

without : (blocks size : ℕ) (es : List (ℕ × Piece)) → es ≡ [] → AreExtents blocks size es
without blocks size es empty = rw empty (record { full = λ b p is. cc; within = λ b p is. cc })

pub invariant_of-result : goal.invariant_of-result
invariant_of-result c =
    let empty : c.new.result.entries ≡ [] = search rules in
    (without c.args.count c.args.size c.new.result.entries empty, sym (mapped-none c.args.count (held_in c.args.size c.new.result.entries) (nothing c.args.size c.new.result.entries empty)))

pub returns-clause-unmapped : goal.returns-clause-unmapped
returns-clause-unmapped c =
    let empty : c.new.result.entries ≡ [] = search rules in
    nothing c.args.size c.new.result.entries empty
